-- Labels that occur twice.
use Rattle.std.proofs.Common.{◌≡◌, ℕ, ◌+◌, ◌<◌, ◌≤◌, Bool, true, false, List, [], ◌∷◌, ◌++◌, length, get_or, take, drop}
use Rattle.std.proofs.Common.{map, cond, Option, Some, refl, sym, ap, ◌∙◌, arith}
use Rattle.std.specs.Prelude.{◌||◌}
use Rattle.std.specs.List.{list_any}
use Rattle.std.specs.Str.{bytes_eq}
use Rattle.std.specs.Prelude.{◌==◌}
use Rattle.std.specs.Option.{is_some}
use Rattle.std.proofs.lemmas.Bool.{ne_eqb}
use Rattle.std.proofs.lemmas.List.Folds.{list_any-append}
use Rattle.metric.specs.Pairs.{has_empty_key}
use Rattle.std.specs.List.{take-map}
use Rattle.std.proofs.lemmas.List.{length-map, get_or-map}
use Rattle.metric.specs.Draft.{Tag}
use Rattle.std.proofs.lemmas.List.{take_more, drop_more, drop_all}
use Rattle.openmetrics_text.specs.declared.labels.Label.{Label}
use Rattle.openmetrics_text.specs.Labels.{has_twice, names_of, AreNamed}
use Rattle.openmetrics_text.specs.Views.{label_view}

-- the names before an index, and those from it on
abbrev pub twice_from : List (List ℕ) → ℕ → Bool
twice_from names i = has_twice (take i names) (drop i names)

pub twice_next : (names : List (List ℕ)) (i : ℕ) (name : List ℕ) → i < length names → name ≡ get_or names i name
    → twice_from names i ≡ (list_any (λ other. bytes_eq other name) (take i names) || twice_from names (i + 1))
unfolding has_twice
twice_next names i name lt is =
    let behind : drop i names ≡ name ∷ drop (i + 1) names = drop_more names i name lt
    ∙ ap (λ (n : List ℕ). n ∷ drop (i + 1) names) (sym is) in
    let front : take (i + 1) names ≡ take i names ++ name ∷ [] =
    take_more names i name lt ∙ ap (λ (n : List ℕ). take i names ++ n ∷ []) (sym is) in
    rw (behind, front) refl

twice_end : (names : List (List ℕ)) (i : ℕ) → length names ≤ i → twice_from names i ≡ false
unfolding has_twice
twice_end names i all = rw (drop_all i names all) refl

twice_here : (names : List (List ℕ)) (i : ℕ) (name : List ℕ) → i < length names → name ≡ get_or names i name
    → list_any (λ other. bytes_eq other name) (take i names) ≡ true → twice_from names i ≡ true
twice_here names i name lt is among = twice_next names i name lt is ∙ rw among refl

twice_later : (names : List (List ℕ)) (i : ℕ) (name : List ℕ) → i < length names → name ≡ get_or names i name
    → list_any (λ other. bytes_eq other name) (take i names) ≡ false → twice_from names (i + 1) ≡ twice_from names i
twice_later names i name lt is among = sym (twice_next names i name lt is ∙ rw among refl)

-- ---- labels as the code has them

pub names_any : (name : List ℕ) (labels : List Label) → list_any (λ label. bytes_eq label.name.now name) labels
    ≡ list_any (λ other. bytes_eq other name) (names_of (map label_view labels))
names_any name [] = refl
names_any name (label ∷ labels) = ap (λ (t : Bool). bytes_eq label.name.now name || t) (names_any name labels)

names_len : (labels : List Label) → length (names_of (map label_view labels)) ≡ length labels
names_len labels = length-map (map label_view labels) (λ (label : Tag). label.0) ∙ length-map labels label_view

pub names_take : (n : ℕ) (labels : List Label) → names_of (map label_view (take n labels)) ≡ take n
    (names_of (map label_view labels))
names_take n labels = ap names_of (sym (take-map label_view n labels))
    ∙ sym (take-map (λ (label : Tag). label.0) n (map label_view labels))

name_at : (labels : List Label) (i : ℕ) (label : Label) → i < length labels → label ≡ get_or labels i label
    → label.name.now ≡ get_or (names_of (map label_view labels)) i label.name.now
name_at labels i label lt is =
    ap (λ (l : Label). l.name.now) is ∙ sym (get_or-map (λ (l : Label). l.name.now) labels i label label.name.now lt)
    ∙ ap (λ (ns : List (List ℕ)). get_or ns i label.name.now) (names_are labels)
  where
    names_are : (labels : List Label) → map (λ (l : Label). l.name.now) labels ≡ names_of (map label_view labels)
    names_are [] = refl
    names_are (l ∷ ls) = ap (λ (ns : List (List ℕ)). l.name.now ∷ ns) (names_are ls)

-- is the name of a label that of one before it
pub among : (labels : List Label) (i : ℕ) (name : List ℕ) (t : Bool)
    → t ≡ list_any (λ label. bytes_eq label.name.now name) (take i labels)
    → list_any (λ other. bytes_eq other name) (take i (names_of (map label_view labels))) ≡ t
among labels i name t e = sym (e ∙ names_any name (take i labels)
    ∙ ap (λ (ns : List (List ℕ)). list_any (λ other. bytes_eq other name) ns) (names_take i labels))

-- one name more among those that were seen
pub one_seen : (t seen : Bool) (found : Option (Unit {0})) → is_some found ≡ seen
    → is_some (cond t (Some tt) found) ≡ (seen || (t || false))
one_seen true true found e = refl
one_seen true false found e = refl
one_seen false true found e = e
one_seen false false found e = e

seen_more : (names : List (List ℕ)) (i : ℕ) (name other : List ℕ) (found : Option (Unit {0})) → i < length names
    → name ≡ get_or names i name → is_some found ≡ list_any (λ n. bytes_eq n other) (take i names)
    → is_some (cond (bytes_eq name other) (Some tt) found) ≡ list_any (λ n. bytes_eq n other) (take (i + 1) names)
seen_more names i name other found lt is seen =
    let front : take (i + 1) names ≡ take i names ++ name ∷ [] =
    take_more names i name lt ∙ ap (λ (n : List ℕ). take i names ++ n ∷ []) (sym is) in
    one_seen (bytes_eq name other) (list_any (λ n. bytes_eq n other) (take i names)) found seen
    ∙ sym (ap (list_any (λ n. bytes_eq n other)) front ∙ list_any-append (λ n. bytes_eq n other) (take i names)
    (name ∷ []))

-- ---- a label at its index

module _ (labels : List Label) (i : ℕ) (label : Label) (lt : i < length labels) (is : label ≡ get_or labels i label)
  where
    abbrev names : List (List ℕ)
    names = names_of (map label_view labels)

    below : i < length names
    below = omega (arith, lt, names_len labels)

    pub label_twice : list_any (λ other. bytes_eq other label.name.now) (take i names) ≡ true
        → twice_from names i ≡ true
    label_twice seen = twice_here names i label.name.now below (name_at labels i label lt is) seen

    pub label_once : list_any (λ other. bytes_eq other label.name.now) (take i names) ≡ false
        → twice_from names (i + 1) ≡ twice_from names i
    label_once new = twice_later names i label.name.now below (name_at labels i label lt is) new

    pub label_seen : (other : List ℕ) (found : Option (Unit {0}))
        → is_some found ≡ list_any (λ n. bytes_eq n other) (take i names)
        → is_some (cond (bytes_eq label.name.now other) (Some tt) found) ≡ list_any (λ n. bytes_eq n other)
        (take (i + 1) names)
    label_seen other found seen =
        seen_more names i label.name.now other found below (name_at labels i label lt is) seen

pub labels_end : (labels : List Label) (i : ℕ) → length labels ≤ i
    → twice_from (names_of (map label_view labels)) i ≡ false
labels_end labels i all = twice_end (names_of (map label_view labels)) i (omega (arith, all, names_len labels))

-- no label has an empty name
pub named_more : (labels : List Tag) (label : Tag) → AreNamed labels → 0 < length label.0
    → AreNamed (labels ++ label ∷ [])
named_more [] label h some = let filled : (length label.0 == 0) ≡ false = ne_eqb _ _ (λ e. absurd (omega arith)) in
    rw filled refl
named_more (first ∷ labels) label h some = let p = both_false (length first.0 == 0) (has_empty_key labels) h in
    rw (p.0) (named_more labels label p.1 some)
  where
    both_false : (a b : Bool) → (a || b) ≡ false → (a ≡ false) × (b ≡ false)
    both_false true b e = absurd cc
    both_false false b e = (refl, e)
