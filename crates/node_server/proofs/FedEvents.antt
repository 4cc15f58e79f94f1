-- The events of a feed's lines name what the centre has.
use Rattle.std.proofs.Common.{◌≡◌, ℕ, ◌-◌, ◌&&◌, Bool, true, false, List, [], ◌∷◌}
use Rattle.std.proofs.Common.{length, refl, ap, ◌∙◌, subst, Option, Some, None}
use Rattle.std.specs.Prelude.{codes, bytes_eq, if◌then◌else◌, nat_lt, option_map, option_and_then}
use Rattle.std.specs.List.{position}
use Rattle.std.proofs.lemmas.Bool.{lt-ltb}
use Rattle.std.proofs.lemmas.List.Quantifiers.{position-Some}
use Rattle.plain_text.specs.Numbers.{number_up_to}
use Rattle.plain_text.specs.Words.{words_in}
use Rattle.tase_points.specs.Sample.{Sample}
use Rattle.tase_points.specs.Points.{kind_of}
use Rattle.tase_points.specs.Same.{same_kind}
use Rattle.bilateral.specs.Rows.{CentreRows, place_of_point, place_of_device, place_of_peer}
use Rattle.bilateral.specs.Rows.{point_of, variants_of}
use Rattle.sbo_device.specs.declared.key.Key.{Key}
use Rattle.sbo_device.specs.Moves.{Tag}
use Rattle.tase_views.specs.declared.event.EventKind.{EventKind}
use Rattle.tase_views.specs.declared.event.EventKind.TheVariants.{Update, Table, Ask, Stop}
use Rattle.tase_views.specs.declared.event.EventKind.TheVariants as events
use Rattle.tase_views.specs.declared.fault.StepFault.TheVariants.{UnknownName}
use Rattle.tase_views.specs.Moves.{sort_of}
use Rattle.tase_views.specs.History.{association_in, last_tick}
use Rattle.tase_views.specs.Outcomes.{is_named_there, has_slot, seat_refusal_by, clock_refusal_by}
use Rattle.tase_views.specs.Outcomes.{first_refusal, name_refusal}
use Rattle.texts.specs.Events.FeedLines.{feed_event_in, feed_words_in, update_in, update_of}
use Rattle.texts.specs.Events.FeedLines.{sample_in, choice_in, choice_of, tagging_in}
use Rattle.texts.specs.Events.FeedLines.{tag_words_in, ask_in, ask_of, stop_in}
use Rattle.texts.specs.declared.events.feed.TheConstants.{TABLE_NUMBER_LIMIT, SLOT_NUMBER_LIMIT}
use Rattle.node_server.specs.FeedReading.{IsFedEvent}

same_some : {X : Type 0} (a b : X) → Some a ≡ Some b → a ≡ b
same_some a b e = cc

-- a place that was found is one of the list
below : {X : Type 0} (p : X → Bool) (xs : List X) (place : ℕ) → position p xs ≡ Some place
    → nat_lt place (length xs) ≡ true
below p [] place e = absurd cc
below p (x ∷ xs) place e = lt-ltb _ _ (position-Some p (x ∷ xs) place x e).0

module _ (rows : CentreRows) (event : EventKind) where
  -- a centre's own event that names what is there
  named : (one : EventKind) → ((found : Option Key) → seat_refusal_by found (sort_of one) ≡ None)
      → ((last : ℕ) → clock_refusal_by last (sort_of one) ≡ None)
      → is_named_there rows (sort_of one) ≡ true → Some one ≡ Some event → IsFedEvent rows event
  named one seat clock there is = subst (IsFedEvent rows) (same_some one event is)
      (λ past who. (
        ap (λ s. first_refusal (s ∷ name_refusal rows one ∷ [])) (seat (association_in past who))
            ∙ ap (λ (b : Bool). first_refusal ((if b then None else Some UnknownName) ∷ [])) there,
        clock (last_tick past),
      ))

  both : (a b : Bool) → a ≡ true → b ≡ true → a && b ≡ true
  both a b one two = ap (λ (x : Bool). x && b) one ∙ two

  of_update : (words : List (List ℕ)) → update_in rows words ≡ Some event
      → IsFedEvent rows event
  of_update (name ∷ body ∷ flags ∷ seconds ∷ millis ∷ []) is =
      by (place_of_point rows name) refl (sample_in body flags seconds millis) is
    where
      kind : (point : ℕ) (value : Sample) (b : Bool) → place_of_point rows name ≡ Some point
          → same_kind (kind_of value.body) (point_of rows point).kind ≡ b
          → (if b then Some (Update point value) else None) ≡ Some event → IsFedEvent rows event
      kind point value true found same e = named (Update point value) (λ _. refl) (λ _. refl)
          (both _ _ (below _ rows.points point found) same) e
      kind point value false found same e = absurd cc

      by : (p : Option ℕ) → place_of_point rows name ≡ p → (v : Option Sample)
          → option_and_then (λ point. option_and_then (λ value. update_of rows point value) v) p
          ≡ Some event → IsFedEvent rows event
      by None found v e = absurd cc
      by (Some point) found None e = absurd cc
      by (Some point) found (Some value) e = kind point value _ found refl e
  of_update _ is = absurd cc

  of_choice : (words : List (List ℕ)) → choice_in rows words ≡ Some event
      → IsFedEvent rows event
  of_choice (key ∷ number ∷ []) is =
      by (place_of_peer rows key) refl (number_up_to TABLE_NUMBER_LIMIT number) is
    where
      there : (peer variant : ℕ) (b : Bool) → place_of_peer rows key ≡ Some peer
          → nat_lt variant (length (variants_of rows peer)) ≡ b
          → (if b then Some (Table peer variant) else None) ≡ Some event → IsFedEvent rows event
      there peer variant true found has e = named (Table peer variant) (λ _. refl) (λ _. refl)
          (both _ _ (below _ rows.tables peer found) has) e
      there peer variant false found has e = absurd cc

      by : (p : Option ℕ) → place_of_peer rows key ≡ p → (v : Option ℕ)
          → option_and_then (λ peer. option_and_then (λ variant. choice_of rows peer variant) v) p
          ≡ Some event → IsFedEvent rows event
      by None found v e = absurd cc
      by (Some peer) found None e = absurd cc
      by (Some peer) found (Some variant) e = there peer variant _ found refl e
  of_choice _ is = absurd cc

  of_tagging : (words : List (List ℕ)) → tagging_in rows words ≡ Some event
      → IsFedEvent rows event
  of_tagging (name ∷ number ∷ reason ∷ []) is =
      by (place_of_device rows name) refl (tag_words_in number reason) is
    where
      by : (p : Option ℕ) → place_of_device rows name ≡ p → (t : Option Tag)
          → option_and_then (λ device. option_map (events.Tag device) t) p ≡ Some event
          → IsFedEvent rows event
      by None found t e = absurd cc
      by (Some device) found None e = absurd cc
      by (Some device) found (Some tag) e = named (events.Tag device tag) (λ _. refl) (λ _. refl)
          (below _ rows.devices device found) e
  of_tagging _ is = absurd cc

  of_ask : (words : List (List ℕ)) → ask_in rows words ≡ Some event → IsFedEvent rows event
  of_ask (key ∷ number ∷ []) is =
      by (place_of_peer rows key) (number_up_to SLOT_NUMBER_LIMIT number) is
    where
      there : (peer slot : ℕ) (b : Bool) → has_slot rows peer slot ≡ b
          → (if b then Some (Ask peer slot) else None) ≡ Some event → IsFedEvent rows event
      there peer slot true has e = named (Ask peer slot) (λ _. refl) (λ _. refl) has e
      there peer slot false has e = absurd cc

      some : (peer n : ℕ) (b : Bool)
          → (if b then None
          else (if has_slot rows peer (n - 1) then Some (Ask peer (n - 1)) else None)) ≡ Some event
          → IsFedEvent rows event
      some peer n true e = absurd cc
      some peer n false e = there peer (n - 1) _ refl e

      by : (p n : Option ℕ)
          → option_and_then (λ peer. option_and_then (λ n. ask_of rows peer n) n) p ≡ Some event
          → IsFedEvent rows event
      by None n e = absurd cc
      by (Some peer) None e = absurd cc
      by (Some peer) (Some n) e = some peer n _ e
  of_ask _ is = absurd cc

  of_stop : (words : List (List ℕ)) → stop_in words ≡ Some event → IsFedEvent rows event
  of_stop [] is = named Stop (λ _. refl) (λ _. refl) refl is
  of_stop (word ∷ words) is = absurd cc

  of_words : (words : List (List ℕ)) → feed_words_in rows words ≡ Some event
      → IsFedEvent rows event
  of_words [] is = absurd cc
  of_words (verb ∷ words) is = by (bytes_eq verb (codes "update")) (bytes_eq verb (codes "table"))
      (bytes_eq verb (codes "tag")) (bytes_eq verb (codes "ask")) (bytes_eq verb (codes "stop")) is
    where
      by : (u t g a s : Bool)
          → (if u then update_in rows words else (if t then choice_in rows words
          else (if g then tagging_in rows words else (if a then ask_in rows words
          else (if s then stop_in words else None))))) ≡ Some event
          → IsFedEvent rows event
      by true t g a s e = of_update words e
      by false true g a s e = of_choice words e
      by false false true a s e = of_tagging words e
      by false false false true s e = of_ask words e
      by false false false false true e = of_stop words e
      by false false false false false e = absurd cc

  of_line : (found : Option (List (List ℕ)))
      → option_and_then (feed_words_in rows) found ≡ Some event → IsFedEvent rows event
  of_line None is = absurd cc
  of_line (Some words) is = of_words words is

pub fed-event : (rows : CentreRows) (line : List ℕ) (event : EventKind)
    → feed_event_in rows line ≡ Some event → IsFedEvent rows event
fed-event rows line event is = of_line rows event (words_in line) is
