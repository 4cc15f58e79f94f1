use Rattle.std.proofs.Common.{◌<◌, ◌≡◌, length, subst, sym, ap, ◌∙◌, bytes_eq}
use Rattle.std.specs.Prelude.{unwrap_or, OnOk}
use Rattle.std.proofs.lemmas.List.Quantifiers.{position-Some}
use Rattle.bilateral.specs.declared.rows.Table.{Table}
use Rattle.bilateral.specs.declared.rows.TheConstants.{VARIANT_LIMIT}
use Rattle.bilateral.specs.Reading.{varied}
use Rattle.bilateral.specs.Rows.{place_of_peer, further_of, no_table}
use Rattle.bilateral.specs.Store.{rows_of, so_far}
use Rattle.bilateral.proofs.Taken.{IsNewVariant-from_no_fault}
use Rattle.bilateral.proofs.store.Store.add_variant.Goals as goal

pub unreachable-requires : goal.unreachable-requires
unreachable-requires c =
    let rows = rows_of c.args.self.now in
    let new = IsNewVariant-from_no_fault (so_far c.args.self.now) c.args.key c.args.domain c.args.id
    c.requires.taken in
    c.in_default.not-Some new.0
    (c.find_peer.ensures ∙ ap (place_of_peer rows) c.as_slice.ensures.value ∙ new.1.known)

pub push_variant-requires-clause-known : goal.push_variant-requires-clause-known
push_variant-requires-clause-known c =
    let rows = rows_of c.args.self.now in
    let found = position-Some (λ (t : Table). bytes_eq t.key c.as_slice.result.now) rows.tables
    c.in-Some.peer no_table (sym c.find_peer.ensures ∙ c.in-Some.is) in
    found.0

pub push_variant-requires-clause-room : goal.push_variant-requires-clause-room
push_variant-requires-clause-room c =
    let rows = rows_of c.args.self.now in
    let new = IsNewVariant-from_no_fault (so_far c.args.self.now) c.args.key c.args.domain c.args.id
    c.requires.taken in
    let same =
    ap (λ o. unwrap_or o 0)
    (sym new.1.known ∙ sym (ap (place_of_peer rows) c.as_slice.ensures.value)
    ∙ sym c.find_peer.ensures ∙ c.in-Some.is) in
    subst (λ n. length (further_of rows n) < VARIANT_LIMIT) same new.1.room

pub push_variant-requires-clause-domain : goal.push_variant-requires-clause-domain
push_variant-requires-clause-domain c = c.requires.lawful.1

pub push_variant-requires-clause-id : goal.push_variant-requires-clause-id
push_variant-requires-clause-id c = c.requires.lawful.2

pub returns-clause-rows : goal.returns-clause-rows
returns-clause-rows c =
    let rows = rows_of c.args.self.now in
    subst
    (λ n. OnOk c.push_variant.result
    (so_far c.push_variant.new.self ≡ varied rows n c.args.domain c.args.id))
    (ap (λ o. unwrap_or o 0)
    (sym c.in-Some.is ∙ c.find_peer.ensures
    ∙ ap (place_of_peer rows) c.as_slice.ensures.value)) c.push_variant.ensures.rows
