-- What is written as a sample is read as it.
use Rattle.std.proofs.Common.{◌≡◌, ◌≢◌, ℕ, zero, suc, ◌+◌, ◌<◌, ◌≤◌, Bool, true, false, eqb, List, [], ◌∷◌, ◌++◌}
use Rattle.std.proofs.Common.{length, get_or, take, drop, Ok, Option, Some, None, refl, sym, ap, subst, ◌∙◌, arith}
use Rattle.std.proofs.Common.{append_assoc}
use Rattle.std.specs.Prelude.{◌==◌}
use Rattle.std.specs.Char.{is_ascii_digit}
use Rattle.std.proofs.lemmas.Bool.{ne_eqb, eq-eqb}
use Rattle.std.proofs.lemmas.List.{take_at, length-append}
use Rattle.text_parts.specs.Grammar.{Mark, spelled, meant, IsPart, HasNone}
use Rattle.text_parts.specs.Many.{many_at}
use Rattle.text_parts.proofs.Takes.{At, at_start, step, over, at_byte, part_takes, not_none, Took}
use Rattle.text_parts.proofs.Splits.{found_at, none_at}
use Rattle.metric.specs.Draft.{Tag}
use Rattle.openmetrics_text.specs.Names.{ends_label, ends_name, name_len}
use Rattle.openmetrics_text.specs.Labels.{value_part, label_len, label_name_at, label_value_at, label_at}
use Rattle.openmetrics_text.specs.Labels.{some_labels_at, has_twice, names_of, labels_at}
use Rattle.openmetrics_text.specs.Sample.{head_of, behind_space}
use Rattle.openmetrics_text.specs.Grammar.{label_text, more_labels_text, labels_text, braces_text, IsName, IsLabel}
use Rattle.openmetrics_text.specs.Grammar.{AreLabels, AreBraced}

-- ---- names

-- a byte of a name isn't one that ends it
not_byte : (ends : ℕ → Bool) (b y : ℕ) → ends b ≡ false → ends y ≡ true → (b == y) ≡ false
not_byte ends b y h e = ne_eqb b y (λ same. let no : true ≡ false = sym e ∙ ap ends (sym same) ∙ h in absurd cc)

first_byte : (name rest : List ℕ) → 0 < length name → get_or (name ++ rest) 0 0 ≡ get_or name 0 0
first_byte [] rest some = absurd (omega arith)
first_byte (b ∷ name) rest some = refl

first_clean : (ends : ℕ → Bool) (name : List ℕ) → 0 < length name → HasNone ends name → ends (get_or name 0 0) ≡ false
first_clean ends [] some h = absurd (omega arith)
first_clean ends (b ∷ name) some h = h.0

pub name_first : (ends : ℕ → Bool) (name rest : List ℕ) (y : ℕ) → IsName ends name → ends y ≡ true
    → (get_or (name ++ rest) 0 0 == y) ≡ false
name_first ends name rest y h e = not_byte ends (get_or (name ++ rest) 0 0) y (ap ends (first_byte name rest h.filled)
    ∙ first_clean ends name h.filled h.clean) e

pub name_takes : (ends : ℕ → Bool) (name : List ℕ) (y : ℕ) (rest : List ℕ) → IsName ends name → ends y ≡ true
    → name_len ends (name ++ y ∷ rest) ≡ length name
unfolding name_len
name_takes ends name y rest h e =
    let no_digit : is_ascii_digit (get_or (name ++ y ∷ rest) 0 0) ≡ false =
    ap is_ascii_digit (first_byte name (y ∷ rest) h.filled) ∙ h.no_digit in
    rw no_digit (found_at ends name y rest h.clean e)

pub whole_name : (ends : ℕ → Bool) (name : List ℕ) → IsName ends name → name_len ends name ≡ length name
unfolding name_len
whole_name ends name h = rw (h.no_digit) (none_at ends name h.clean)

-- ---- labels

label_name_takes : (line : List ℕ) (i : ℕ) (name rest : List ℕ) → At line i (name ++ 61 ∷ 34 ∷ rest)
    → IsName ends_label name → Took (label_name_at line i) line rest name
unfolding label_name_at
label_name_takes line i name rest at h =
    let len : label_len line i ≡ length name = ap (name_len ends_label) at.is
    ∙ name_takes ends_label name 61 (34 ∷ rest) h refl in
    let cut : take (label_len line i) (drop i line) ≡ name =
    ap (λ (n : ℕ). take n (drop i line)) len ∙ ap (take (length name)) at.is
    ∙ take_at name (61 ∷ 34 ∷ rest) (length name) refl in
    let behind = step line i name (61 ∷ 34 ∷ rest) at in
    let quote = over line (i + length name) 61 (34 ∷ rest) behind in
    let equals : (get_or line (i + length name) 0 == 61) ≡ true =
    eq-eqb _ _ (at_byte line (i + length name) (61 ∷ 34 ∷ rest) behind) in
    let opened : (get_or line (i + length name + 1) 0 == 34) ≡ true =
    eq-eqb _ _ (at_byte line (i + length name + 1) (34 ∷ rest) quote) in (
      i + length name + 2,
      rw (cut, len, not_none name h.filled, equals, opened) refl,
      subst (λ (n : ℕ). At line n rest) (omega arith) (over line (i + length name + 1) 34 rest quote),
    )

label_value_takes : (line : List ℕ) (i : ℕ) (marks : List Mark) (rest : List ℕ) → At line i (spelled marks ++ 34 ∷ rest)
    → IsPart value_part marks (34 ∷ rest) → Took (label_value_at line i) line rest (meant value_part marks)
unfolding label_value_at
label_value_takes line i marks rest at is =
    let part = part_takes value_part line i (spelled marks) (34 ∷ rest) marks at refl is in
    let behind = step line i (spelled marks) (34 ∷ rest) at in
    let closed : (get_or line (i + length (spelled marks)) 0 == 34) ≡ true =
    eq-eqb _ _ (at_byte line (i + length (spelled marks)) (34 ∷ rest) behind) in (
      i + length (spelled marks) + 1,
      rw (part.1, part.0, closed) refl,
      over line (i + length (spelled marks)) 34 rest behind,
    )

label_split : (w : List ℕ × List ℕ) (rest : List ℕ) → label_text w ++ rest ≡ w.0 ++ 61 ∷ 34 ∷ (w.1 ++ 34 ∷ rest)
label_split w rest = append_assoc w.0 (61 ∷ 34 ∷ (w.1 ++ 34 ∷ [])) rest
    ∙ ap (λ (t : List ℕ). w.0 ++ 61 ∷ 34 ∷ t) (append_assoc w.1 (34 ∷ []) rest)

label_takes : (line : List ℕ) (i : ℕ) (w : List ℕ × List ℕ) (rest : List ℕ) (label : Tag)
    → At line i (label_text w ++ rest) → IsLabel w label → Took (label_at line i) line rest label
unfolding label_at
label_takes line i w rest label at is =
    let name = label_name_takes line i w.0 (w.1 ++ 34 ∷ rest) (subst (At line i) (label_split w rest) at) is.name in
    let text : At line name.0 (spelled is.marks ++ 34 ∷ rest) =
    subst (λ (t : List ℕ). At line name.0 (t ++ 34 ∷ rest)) is.is name.2 in
    let value = label_value_takes line name.0 is.marks rest text (is.part rest) in
    let same : (w.0, meant value_part is.marks) ≡ label = λ j. (sym is.same j, sym is.says j) in
    (value.0, rw (name.1, value.1) (ap (λ (l : Tag). Ok (l, value.0)) same), value.2)

many_take : (line : List ℕ) (n i : ℕ) (ws : List (List ℕ × List ℕ)) (rest : List ℕ) (labels : List Tag)
    → length line ≤ n + i → At line i (more_labels_text ws ++ rest) → AreLabels ws labels → get_or rest 0 0 ≢ 44
    → Took (many_at label_at 44 n line i) line rest labels
unfolding many_at
many_take line zero i [] rest [] enough at all no_comma = (i, refl, at)
many_take line (suc n) i [] rest [] enough at all no_comma =
    let test : eqb (get_or line i 0) 44 ≡ false = ne_eqb _ _ (λ e. no_comma (sym (at_byte line i rest at) ∙ e)) in
    (i, rw test refl, at)
many_take line n i [] rest (x ∷ labels) enough at all no_comma = absurd all
many_take line n i (w ∷ ws) rest [] enough at all no_comma = absurd all
many_take line zero i (w ∷ ws) rest (x ∷ labels) enough at all no_comma = absurd (omega (arith, at.within))
many_take line (suc n) i (w ∷ ws) rest (x ∷ labels) enough at all no_comma =
    let test : eqb (get_or line i 0) 44 ≡ true = eq-eqb _ _ (at_byte line i
    (44 ∷ ((label_text w ++ more_labels_text ws) ++ rest)) at) in
    let item : At line (i + 1) (label_text w ++ (more_labels_text ws ++ rest)) =
    subst (At line (i + 1)) (append_assoc (label_text w) (more_labels_text ws) rest)
    (over line i 44 ((label_text w ++ more_labels_text ws) ++ rest) at) in
    let first = label_takes line (i + 1) w (more_labels_text ws ++ rest) x item all.0 in
    let others = many_take line n first.0 ws rest labels (omega
    (arith, item.within, (first.2).within, length-append (label_text w) (more_labels_text ws ++ rest))) first.2 all.1
    no_comma in
    (others.0, rw (test, first.1, others.1) refl, others.2)

some_take : (line : List ℕ) (i : ℕ) (w : List ℕ × List ℕ) (ws : List (List ℕ × List ℕ)) (rest : List ℕ) (label : Tag)
    (labels : List Tag) → At line i (labels_text (w ∷ ws) ++ rest) → AreLabels (w ∷ ws) (label ∷ labels)
    → get_or rest 0 0 ≢ 44
    → Took (some_labels_at line i) line rest (label ∷ labels)
unfolding some_labels_at
some_take line i w ws rest label labels at all no_comma =
    let first = label_takes line i w (more_labels_text ws ++ rest) label
    (subst (At line i) (append_assoc (label_text w) (more_labels_text ws) rest) at) all.0 in
    let others = many_take line (length line) first.0 ws rest labels (omega arith) first.2 all.1 no_comma in
    (others.0, rw (first.1, others.1) refl, others.2)

pub labels_take : (line : List ℕ) (i : ℕ) (ws : List (List ℕ × List ℕ)) (rest : List ℕ) (labels : List Tag)
    → At line i (labels_text ws ++ 125 ∷ rest) → AreLabels ws labels → has_twice [] (names_of labels) ≡ false
    → Took (labels_at line i) line rest labels
unfolding labels_at
labels_take line i [] rest [] at all distinct =
    let closed : (get_or line i 0 == 125) ≡ true = eq-eqb _ _ (at_byte line i (125 ∷ rest) at) in
    (i + 1, rw closed refl, over line i 125 rest at)
labels_take line i [] rest (x ∷ labels) at all distinct = absurd all
labels_take line i (w ∷ ws) rest [] at all distinct = absurd all
labels_take line i (w ∷ ws) rest (label ∷ labels) at all distinct =
    let whole : labels_text (w ∷ ws) ++ 125 ∷ rest ≡ w.0 ++ 61 ∷ 34 ∷
    (w.1 ++ 34 ∷ (more_labels_text ws ++ 125 ∷ rest)) = append_assoc (label_text w) (more_labels_text ws) (125 ∷ rest)
    ∙ label_split w (more_labels_text ws ++ 125 ∷ rest) in
    let open_one : (get_or line i 0 == 125) ≡ false = ap (λ (b : ℕ). b == 125)
    (at_byte line i (labels_text (w ∷ ws) ++ 125 ∷ rest) at ∙ ap (λ (t : List ℕ). get_or t 0 0) whole)
    ∙ name_first ends_label w.0 (61 ∷ 34 ∷ (w.1 ++ 34 ∷ (more_labels_text ws ++ 125 ∷ rest))) 125 ((all.0).name) refl in
    let some = some_take line i w ws (125 ∷ rest) label labels at all (λ e. absurd (omega (arith, e))) in
    let closed : (get_or line some.0 0 == 125) ≡ true = eq-eqb _ _ (at_byte line some.0 (125 ∷ rest) some.2) in
    (some.0 + 1, rw (open_one, some.1, closed, distinct) refl, over line some.0 125 rest some.2)

-- ---- the head

-- a name in front of a byte that isn't of it
module _ (name : List ℕ) (y : ℕ) (rest : List ℕ) (h : IsName ends_name name) (e : ends_name y ≡ true) where
  front : take (name_len ends_name (name ++ y ∷ rest)) (name ++ y ∷ rest) ≡ name
  front = ap (λ (n : ℕ). take n (name ++ y ∷ rest)) (name_takes ends_name name y rest h e)
      ∙ take_at name (y ∷ rest) (length name) refl

  behind_name : At (name ++ y ∷ rest) (length name) (y ∷ rest)
  behind_name = subst (λ (n : ℕ). At (name ++ y ∷ rest) n (y ∷ rest)) (omega arith)
      (step (name ++ y ∷ rest) 0 name (y ∷ rest) (at_start (name ++ y ∷ rest)))

  byte_is : get_or (name ++ y ∷ rest) (length name) 0 ≡ y
  byte_is = at_byte (name ++ y ∷ rest) (length name) (y ∷ rest) behind_name

-- the head, and the space behind it
abbrev pub HeadTook : List ℕ → List ℕ → List Tag → List ℕ → Type 0
HeadTook line name labels rest = (behind : ℕ) × (head_of line ≡ Ok
    (record { name = name; labels = labels; behind = behind })) × At line behind (32 ∷ rest)

plain_head : (name rest : List ℕ) → IsName ends_name name → HeadTook (name ++ 32 ∷ rest) name [] rest
unfolding head_of
plain_head name rest h =
    let len = name_takes ends_name name 32 rest h refl in
    let no_brace : (get_or (name ++ 32 ∷ rest) (length name) 0 == 123) ≡ false =
    ap (λ (b : ℕ). b == 123) (byte_is name 32 rest h refl) in (
      length name,
      rw (front name 32 rest h refl, len, not_none name h.filled, no_brace) refl,
      behind_name name 32 rest h refl,
    )

braced_head : (name rest : List ℕ) (ws : List (List ℕ × List ℕ)) (labels : List Tag) → IsName ends_name name
    → AreLabels ws labels → has_twice [] (names_of labels) ≡ false
    → HeadTook (name ++ 123 ∷ (labels_text ws ++ 125 ∷ 32 ∷ rest)) name labels rest
unfolding head_of
braced_head name rest ws labels h all distinct =
    let text : List ℕ = labels_text ws ++ 125 ∷ 32 ∷ rest in
    let len = name_takes ends_name name 123 text h refl in
    let brace : (get_or (name ++ 123 ∷ text) (length name) 0 == 123) ≡ true =
    eq-eqb _ _ (byte_is name 123 text h refl) in
    let took = labels_take (name ++ 123 ∷ text) (length name + 1) ws (32 ∷ rest) labels
    (over (name ++ 123 ∷ text) (length name) 123 text (behind_name name 123 text h refl)) all distinct in
    (took.0, rw (front name 123 text h refl, len, not_none name h.filled, brace, took.1) refl, took.2)

pub head_takes : (name rest : List ℕ) (braces : Option (List (List ℕ × List ℕ))) (labels : List Tag)
    → IsName ends_name name → AreBraced braces labels → has_twice [] (names_of labels) ≡ false
    → HeadTook (name ++ (braces_text braces ++ 32 ∷ rest)) name labels rest
head_takes name rest None labels h none distinct = subst (λ (ls : List Tag). HeadTook (name ++ 32 ∷ rest) name ls rest)
    (sym none) (plain_head name rest h)
head_takes name rest (Some ws) labels h all distinct =
    subst (λ (t : List ℕ). HeadTook (name ++ 123 ∷ t) name labels rest)
    (sym (append_assoc (labels_text ws) (125 ∷ []) (32 ∷ rest))) (braced_head name rest ws labels h all distinct)

pub behind_takes : (line : List ℕ) (i : ℕ) (rest : List ℕ) → At line i (32 ∷ rest) → behind_space line i ≡ Ok rest
unfolding behind_space
behind_takes line i rest at =
    let space : (get_or line i 0 == 32) ≡ true = eq-eqb _ _ (at_byte line i (32 ∷ rest) at) in
    rw (space, (over line i 32 rest at).is) refl
