-- The options of a replay, one by one.
use Rattle.std.proofs.Common.{◌≡◌, ◌≤◌, ◌∙◌, ◌||◌, ◌⊎◌, inl, inr, ℕ, Bool, true, false, not, List}
use Rattle.std.proofs.Common.{[], ◌∷◌}
use Rattle.std.proofs.Common.{Some, None, is_some, option_map, option_and_then, ap, sym}
use Rattle.std.proofs.Common.{refl}
use Rattle.std.proofs.Common.{codes, bytes_eq, if◌then◌else◌, nat_le, subst, true≢false}
use Rattle.std.proofs.Common.{leb-true, lit≤}
use Rattle.std.proofs.lemmas.Slice.Eq.{bytes_eq-Decides}
use Rattle.plain_text.specs.Numbers.{if_passes, number_in, number_up_to}
use Rattle.commands.specs.declared.words.words.TheConstants.{MOST_LIMIT}
use Rattle.commands.specs.Words.Words.{AreOptions, ReplayOptions, is_file_name, is_journal_name}
use Rattle.commands.specs.Words.Words.{limit_in, no_options, options_in}
use Rattle.commands.specs.Words.Words.{with_journal, with_limit, with_option}
use Rattle.commands.proofs.OfWords.Tests.{both, chosen, followed, mapped, not_none, some_is}

-- `--limit N` made these options of those
pub record IsLimit (option word : List ℕ) (before after : ReplayOptions) : Type 0 where
  pub name : option ≡ codes "--limit"
  pub limit : ℕ
  pub fresh : is_some before.limit ≡ false
  pub limit_is : limit_in word ≡ Some limit
  pub after_is : after ≡ record before { limit = Some limit }

-- `--journal FILE` made these options of those
pub record IsJournal (option word : List ℕ) (before after : ReplayOptions) : Type 0 where
  pub name : option ≡ codes "--journal"
  pub fresh : is_some before.journal ≡ false
  pub file : is_journal_name word ≡ true
  pub after_is : after ≡ record before { journal = Some word }

abbrev pub IsOption : List ℕ → List ℕ → ReplayOptions → ReplayOptions → Type 0
IsOption option word before after = IsLimit option word before after
    ⊎ IsJournal option word before after

limited : (option word : List ℕ) (before after : ReplayOptions)
    → bytes_eq option (codes "--limit") ≡ true → with_limit word before ≡ Some after
    → IsLimit option word before after
limited option word before after is e =
    elim (chosen (is_some before.limit) None
    (option_map (λ (n : ℕ). let o : ReplayOptions = record before { limit = Some n } in o)
    (limit_in word)) after e) [
      | inl h ↦ absurd (not_none after h.1)
      | inr h ↦
          let m = mapped (limit_in word)
          (λ (n : ℕ). let o : ReplayOptions = record before { limit = Some n } in o) after
          h.1 in
          record {
            name = (bytes_eq-Decides option (codes "--limit")).0 is;
            limit = m.0;
            fresh = h.0;
            limit_is = m.1;
            after_is = sym m.2;
          }
    ]

neither : (a b : Bool) → (a || not b) ≡ false → (a ≡ false) × (b ≡ true)
neither true b e = absurd (true≢false e)
neither false true e = (refl, refl)
neither false false e = absurd (true≢false e)

journaled : (option word : List ℕ) (before after : ReplayOptions)
    → bytes_eq option (codes "--journal") ≡ true → with_journal word before ≡ Some after
    → IsJournal option word before after
journaled option word before after is e =
    let made : ReplayOptions = record before { journal = Some word } in
    elim (chosen (is_some before.journal || not (is_journal_name word)) None (Some made) after e) [
      | inl h ↦ absurd (not_none after h.1)
      | inr h ↦
          let n = neither (is_some before.journal) (is_journal_name word) h.0 in
          record {
            name = (bytes_eq-Decides option (codes "--journal")).0 is;
            fresh = n.0;
            file = n.1;
            after_is = sym (some_is made after h.1);
          }
    ]

pub optioned : (option word : List ℕ) (before after : ReplayOptions)
    → with_option option word before ≡ Some after → IsOption option word before after
optioned option word before after e =
    elim (chosen (bytes_eq option (codes "--limit")) (with_limit word before)
    (if bytes_eq option (codes "--journal") then with_journal word before else None) after e) [
      | inl h ↦ inl (limited option word before after h.0 h.1)
      | inr h ↦ elim (chosen (bytes_eq option (codes "--journal")) (with_journal word before) None
          after h.1) [
            | inl k ↦ inr (journaled option word before after k.0 k.1)
            | inr k ↦ absurd (not_none after k.1)
          ]
    ]

passes : {A : Type 0} (test : A → Bool) (x y : A) → if_passes test x ≡ Some y
    → (test x ≡ true) × (x ≡ y)
passes test x y e = elim (chosen (test x) (Some x) None y e) [
  | inl h ↦ (h.0, some_is x y h.1)
  | inr h ↦ absurd (not_none y h.1)
]

up_to : (most : ℕ) (word : List ℕ) (n : ℕ) → number_up_to most word ≡ Some n → n ≤ most
up_to most word n e =
    let f = followed (number_in word) (if_passes (λ m. nat_le m most)) n e in
    let p = passes (λ m. nat_le m most) f.0 n f.2 in
    subst (λ m. m ≤ most) p.1 (leb-true f.0 most p.0)

-- the number of a word, which is 1 at least
pub record IsCount (most : ℕ) (word : List ℕ) (n : ℕ) : Type 0 where
  pub number : number_up_to most word ≡ Some n
  pub below : n ≤ most

pub counted : (most : ℕ) (word : List ℕ) (n : ℕ)
    → option_and_then (if_passes (λ m. nat_le 1 m)) (number_up_to most word) ≡ Some n
    → IsCount most word n
counted most word n e =
    let f = followed (number_up_to most word) (if_passes (λ m. nat_le 1 m)) n e in
    let p = passes (λ m. nat_le 1 m) f.0 n f.2 in
    let number : number_up_to most word ≡ Some n =
    f.1 ∙ ap (λ (m : ℕ). Some m) p.1 in
    record { number = number; below = up_to most word n number }

none_lawful : AreOptions no_options
none_lawful = record { limit = lit≤ tt; journal = tt }

kept : (option word : List ℕ) (before after : ReplayOptions) → AreOptions before
    → IsOption option word before after → AreOptions after
kept option word before after lawful o = elim o [
  | inl l ↦ subst AreOptions (sym l.after_is) (record {
    limit = (counted MOST_LIMIT word l.limit l.limit_is).below;
    journal = lawful.journal;
  })
  | inr j ↦ subst AreOptions (sym j.after_is) (record {
    limit = lawful.limit;
    journal = no_output (bytes_eq word (codes "-"))
        (both (is_file_name word) (not (bytes_eq word (codes "-"))) j.file).1;
  })
]
  where
    no_output : (b : Bool) → not b ≡ true → b ≡ false
    no_output true e = absurd (true≢false (sym e))
    no_output false e = refl

-- the options of words are lawful
pub options_lawful : (words : List (List ℕ)) (options : ReplayOptions)
    → options_in words ≡ Some options → AreOptions options
options_lawful [] options e = subst AreOptions (some_is no_options options e) none_lawful
options_lawful (option ∷ word ∷ []) options e =
    kept option word no_options options none_lawful (optioned option word no_options options e)
options_lawful (option ∷ word ∷ next ∷ other ∷ []) options e =
    let f = followed (with_option option word no_options) (with_option next other) options e in
    kept next other f.0 options
    (kept option word no_options f.0 none_lawful (optioned option word no_options f.0 f.1))
    (optioned next other f.0 options f.2)
options_lawful _ options e = absurd (not_none options e)
