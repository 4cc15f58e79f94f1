use Rattle.std.proofs.Common.{refl, ap, ◌∙◌, arith, length}
use Rattle.std.specs.Prelude.{slice_get}
use Rattle.std.proofs.lemmas.Option.{slice_get_read}
use Rattle.bilateral.proofs.Stores.{peer_below, variants_in_vec}
use Rattle.bilateral.proofs.store.Store.variant.Goals as goal

pub index-requires : goal.index-requires
index-requires c =
    let v = c.index-tables.result.now in
    omega (
      arith,
      v.ok.0,
      c.requires.variant,
      ap length (variants_in_vec c.args.self.now c.requires.store c.args.peer (peer_below c.args.self.now c.args.peer c.requires.peer) v
          c.index-tables.ensures),
    )

pub returns : goal.returns
returns c =
    let v = c.index-tables.result.now in
    let same = variants_in_vec c.args.self.now c.requires.store c.args.peer (peer_below c.args.self.now c.args.peer c.requires.peer) v
    c.index-tables.ensures in
    ap (λ ts. slice_get ts c.args.variant) same
    ∙ slice_get_read v.items (length v.items) c.args.variant c.index.result.now refl
    (omega (arith, ap length same, c.requires.variant)) c.index.ensures
