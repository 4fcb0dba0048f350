-- Text that is to be given, and how much of it there is.
use Rattle.std.proofs.Common.{◌≡◌, ◌≤◌, ◌+◌, ◌-◌, ℕ, List, [], ◌∷◌, ◌++◌, length, refl, sym, ap, ◌∙◌, arith}
use Rattle.std.proofs.Common.{take, drop, append_assoc, length-append, length-drop, take-append-drop}
use Rattle.std.proofs.Common.{subst, Some, None}
use Rattle.std.proofs.lemmas.Bool.{eq-eqb, eqb-true}
use Rattle.std.proofs.lemmas.List.{drop-drop, take_all}
use Rattle.std.specs.Io.KnownBytes.{prepend_known, IsAtEnd, Keeps}
use Rattle.std.specs.Option.{option_map}
use Rattle.std.specs.Prelude.{◌↔◌, ◌==◌, Bool, IsTrue, MatchOption, Option}
use Rattle.metric.specs.declared.metric.Content.{Content}
use Rattle.statsd_server.specs.declared.datagrams.Dgram.{Dgram}
use Rattle.statsd_server.specs.Groups.{lines_text}
use Rattle.statsd_server.proofs.StandingLemmas.{line_some}

nil_of : {A : Type 0} (xs : List A) → length xs ≡ 0 → xs ≡ []
nil_of [] e = refl
nil_of (x ∷ xs) e = absurd (omega arith)

none_left : (metrics : List Content) → length (lines_text metrics) ≡ 0 → metrics ≡ []
none_left [] e = refl
none_left (m ∷ ms) e = absurd (omega (arith, line_some m ms, e))

-- no text is left where all is given and there are no metrics
pub nothing_left : (text : List ℕ) (at : ℕ) (metrics : List Content) → at ≡ length text → length metrics ≡ 0
    → drop at text ++ lines_text metrics ≡ []
nothing_left text at metrics e none =
    let behind : drop at text ≡ [] = nil_of (drop at text) (omega (arith, length-drop at text)) in
    ap (λ (rest : List ℕ). rest ++ lines_text metrics) behind
    ∙ ap (λ (ms : List Content). lines_text ms) (nil_of metrics none)

-- and only there
pub all_given : (text : List ℕ) (at : ℕ) (metrics : List Content) → at ≤ length text
    → drop at text ++ lines_text metrics ≡ [] → (at ≡ length text) × (length metrics ≡ 0)
all_given text at metrics within e =
    let sum = length-append (drop at text) (lines_text metrics) in
    let zero_is = ap (λ (rest : List ℕ). length rest) e in
    let behind = length-drop at text in
    let none : length (lines_text metrics) ≡ 0 = omega arith in
    (omega arith, ap (λ (ms : List Content). length ms) (none_left metrics none))

-- so whether there is no text is told by both
pub nothing_told : (text : List ℕ) (at : ℕ) (metrics : List Content) (count len : ℕ) (told : Bool) → at ≡ len
    → len ≡ length text → count ≡ length metrics → told ≡ (count == 0)
    → IsTrue told ↔ (drop at text ++ lines_text metrics ≡ [])
nothing_told text at metrics count len told e l n is = (
  λ t. nothing_left text at metrics (e ∙ l) (sym n ∙ eqb-true count 0 (sym is ∙ t)),
  λ none. is ∙ eq-eqb count 0 (n ∙ (all_given text at metrics (omega arith) none).1),
)

pub some_told : (text : List ℕ) (at : ℕ) (metrics : List Content) (len : ℕ) → at ≤ length text → (at ≡ len → ⊥)
    → len ≡ length text → IsTrue (at == len) ↔ (drop at text ++ lines_text metrics ≡ [])
some_told text at metrics len within ne l = (
  λ t. absurd (ne (eqb-true at len t)),
  λ none. absurd (ne ((all_given text at metrics within none).0 ∙ sym l)),
)

-- what is handed out, and what is left
pub handed_out : (text seen front lines : List ℕ) (at count : ℕ) → seen ≡ text
    → front ≡ take count (take (length seen - at) (drop at seen))
    → drop at text ++ lines ≡ front ++ (drop (at + count) text ++ lines)
handed_out text seen front lines at count s e =
    let rest = drop at text in
    let whole : take (length seen - at) (drop at seen) ≡ drop at seen =
    take_all (length seen - at) (drop at seen) (omega (arith, length-drop at seen)) in
    ap (λ (all : List ℕ). all ++ lines) (sym (take-append-drop count rest))
    ∙ append_assoc (take count rest) (drop count rest) lines
    ∙ ap (λ (behind : List ℕ). take count rest ++ (behind ++ lines)) (drop-drop count at text)
    ∙ ap (λ (given : List ℕ). given ++ (drop (at + count) text ++ lines))
    (sym (e ∙ ap (take count) whole ∙ ap (λ (bytes : List ℕ). take count (drop at bytes)) s))

-- ---- the text of a source, once a group is gathered or nothing more is served

module _ (first second third : List Dgram → List ℕ) (old new : Option (List Dgram)) (text : List ℕ) where
  pub gathered_text : {T : Type 0} (items : T → List Content) (found : Option T) (metrics : T) (now : List ℕ)
      → found ≡ Some metrics → text ≡ [] → now ≡ lines_text (items metrics)
      → Keeps (option_map first old) (option_map second new)
      → ((left : List Dgram) → MatchOption found ((second left ≡ []) × (third left ≡ []))
      (λ m. second left ≡ lines_text (items m) ++ third left))
      → Keeps (prepend_known text (option_map first old)) (prepend_known now (option_map third new))
  gathered_text items found metrics now is none e keeps given =
      by_cases old new keeps
    where
      at_some : (left : List Dgram) → second left ≡ lines_text (items metrics) ++ third left
      at_some left = subst (λ (f : _). MatchOption f ((second left ≡ []) × (third left ≡ []))
          (λ m. second left ≡ lines_text (items m) ++ third left)) is (given left)

      by_cases : (old new : Option (List Dgram)) → Keeps (option_map first old) (option_map second new)
          → Keeps (prepend_known text (option_map first old)) (prepend_known now (option_map third new))
      by_cases None new k = tt
      by_cases (Some x) None k = absurd k
      by_cases (Some x) (Some y) k =
          ap (λ (t : List ℕ). t ++ third y) e ∙ sym (at_some y) ∙ k ∙ sym (ap (λ (t : List ℕ). t ++ first x) none)

  at_none : {T : Type 0} (items : T → List Content) (found : Option T) → found ≡ None → (left : List Dgram)
      → MatchOption found ((second left ≡ []) × (third left ≡ []))
      (λ m. second left ≡ lines_text (items m) ++ third left) → (second left ≡ []) × (third left ≡ [])
  at_none items found is left given = subst (λ (f : _). MatchOption f ((second left ≡ []) × (third left ≡ []))
      (λ m. second left ≡ lines_text (items m) ++ third left)) is given

  pub ended_text : {T : Type 0} (items : T → List Content) (found : Option T) → found ≡ None
      → Keeps (option_map first old) (option_map second new)
      → ((left : List Dgram) → MatchOption found ((second left ≡ []) × (third left ≡ []))
      (λ m. second left ≡ lines_text (items m) ++ third left))
      → Keeps (prepend_known text (option_map first old)) (prepend_known text (option_map third new))
  ended_text items found is keeps given = by_cases old new keeps
    where
      by_cases : (old new : Option (List Dgram)) → Keeps (option_map first old) (option_map second new)
          → Keeps (prepend_known text (option_map first old)) (prepend_known text (option_map third new))
      by_cases None new k = tt
      by_cases (Some x) None k = absurd k
      by_cases (Some x) (Some y) k =
          let both = at_none items found is y (given y) in
          ap (λ (rest : List ℕ). text ++ rest) (both.1 ∙ sym both.0 ∙ k)

  pub at_end : {T : Type 0} (items : T → List Content) (found : Option T) → found ≡ None → text ≡ []
      → ((left : List Dgram) → MatchOption found ((second left ≡ []) × (third left ≡ []))
      (λ m. second left ≡ lines_text (items m) ++ third left))
      → IsAtEnd (prepend_known text (option_map third new))
  at_end items found is none given = by_cases new
    where
      by_cases : (new : Option (List Dgram)) → IsAtEnd (prepend_known text (option_map third new))
      by_cases None = tt
      by_cases (Some y) =
          ap (λ (t : List ℕ). t ++ third y) none ∙ (at_none items found is y (given y)).1
