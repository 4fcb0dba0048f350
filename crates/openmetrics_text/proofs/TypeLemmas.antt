-- The last TYPE line of a name.
use Rattle.std.proofs.Common.{◌≡◌, ℕ, Bool, true, false, cond, List, [], ◌∷◌, ◌++◌, length, get_or, take, drop, map}
use Rattle.std.proofs.Common.{◌-◌, ◌+◌, ◌<◌, Option, Some, None, refl, sym, ap, ◌∙◌, arith, add-one}
use Rattle.std.specs.Prelude.{◌||◌, codes}
use Rattle.std.specs.Str.{bytes_eq}
use Rattle.std.specs.Prelude.{Vec}
use Rattle.std.specs.Borrow.{Bor}
use Rattle.std.specs.declared.alloc.Global.{Global}
use Rattle.std.specs.BTreeMap.{BTreeMap, get_by}
use Rattle.std.specs.Cmp.Lexicographic.{slice_cmp}
use Rattle.std.specs.Ordering.{nat_cmp}
use Rattle.std.proofs.lemmas.List.{append_cancel_right, take-append-drop, drop_at, length-append, length-map}
use Rattle.std.proofs.lemmas.List.{map-append}
use Rattle.std.proofs.lemmas.List.Folds.{list_any_more}
use Rattle.std.proofs.lemmas.Slice.Eq.{bytes_eq-Decides}
use Rattle.metric.proofs.GroupLemmas.{not_same, same_texts}
use Rattle.metric.specs.Draft.{Tag}
use Rattle.openmetrics_text.specs.declared.types.Types.{Types}
use Rattle.openmetrics_text.specs.TypeViews.{HaveTypes}
use Rattle.openmetrics_text.specs.Types.{in_front, last_of, later, has_suffix_of, is_family_of, type_from, type_of}

-- one more pair
pub last_of-push : (p : List ℕ → Bool) (pairs : List Tag) (pair : Tag)
    → last_of p (pairs ++ pair ∷ []) ≡ cond (p pair.0) (Some (length pairs)) (last_of p pairs)
unfolding last_of
last_of-push p [] pair = refl
last_of-push p (first ∷ pairs) pair =
    ap (in_front (p first.0)) (last_of-push p pairs pair) ∙ elim (p pair.0) as
    (λ t. in_front (p first.0) (cond t (Some (length pairs)) (last_of p pairs)) ≡ cond t (Some (length (first ∷ pairs)))
    (in_front (p first.0) (last_of p pairs))) [
      | true ↦ ap (λ (n : ℕ). Some n) (omega arith)
      | false ↦ refl
    ]

-- a pair in front of others, for one of two tests
either_in_front : (a b : Bool) (one other : Option ℕ) → in_front (a || b) (later one other) ≡ later (in_front a one)
    (in_front b other)
either_in_front true true None None = refl
either_in_front true false None None = refl
either_in_front false true None None = refl
either_in_front false false None None = refl
either_in_front true b None (Some j) = ap (λ (n : ℕ). Some n) (omega arith)
either_in_front false b None (Some j) = refl
either_in_front a true (Some i) None = ap (λ (n : ℕ). Some n) (omega arith)
either_in_front a false (Some i) None = refl
either_in_front a b (Some i) (Some j) = ap (λ (n : ℕ). Some n) (omega arith)

-- the last pair for one of two tests is the later of their last pairs
last_of-either : (p q : List ℕ → Bool) (pairs : List Tag) → last_of (λ n. p n || q n) pairs ≡ later (last_of p pairs)
    (last_of q pairs)
unfolding last_of
last_of-either p q [] = refl
last_of-either p q (pair ∷ pairs) =
    ap (in_front (p pair.0 || q pair.0)) (last_of-either p q pairs)
    ∙ either_in_front (p pair.0) (q pair.0) (last_of p pairs) (last_of q pairs)

pub either : (p q : List ℕ → Bool) (pairs : List Tag) (one other : Option ℕ) → one ≡ last_of p pairs
    → other ≡ last_of q pairs → later one other ≡ last_of (λ n. p n || q n) pairs
either p q pairs one other e f = ap (λ (o : Option ℕ). later o other) e ∙ ap (later (last_of p pairs)) f
    ∙ sym (last_of-either p q pairs)

-- the type at an index
abbrev pub kind_at : List ℕ → List Tag → Option ℕ → List ℕ
kind_at found pairs None = found
kind_at found pairs (Some index) = get_or (map (λ (pair : Tag). pair.1) pairs) index (codes "unknown")

-- the type of a sample is that of the last pair for it
kind_from : (found sample : List ℕ) (pairs : List Tag) → type_from found sample pairs ≡ kind_at found pairs
    (last_of (is_family_of sample) pairs)
unfolding type_from last_of
kind_from found sample [] = refl
kind_from found sample (pair ∷ pairs) = kind_from (cond (is_family_of sample pair.0) pair.1 found) sample pairs
    ∙ go (is_family_of sample pair.0) (last_of (is_family_of sample) pairs)
  where
    go : (t : Bool) (index : Option ℕ) → kind_at (cond t pair.1 found) pairs index ≡ kind_at found (pair ∷ pairs)
        (in_front t index)
    go t (Some index) = rw add-one refl
    go true None = refl
    go false None = refl

pub type_is : (sample : List ℕ) (pairs : List Tag) (index : Option ℕ) → index ≡ last_of (is_family_of sample) pairs
    → kind_at (codes "unknown") pairs index ≡ type_of sample pairs
type_is sample pairs index e = ap (kind_at (codes "unknown") pairs) e ∙ sym (kind_from (codes "unknown") sample pairs)

-- ---- the TYPE lines as the code has them

-- no name passes the test
pub none_last : (p : List ℕ → Bool) (pairs : List Tag) → ((name : List ℕ) → p name ≡ false) → None ≡ last_of p pairs
unfolding last_of
none_last p [] h = refl
none_last p (pair ∷ pairs) h = rw (h pair.0, ← none_last p pairs h) refl

same_last : (p q : List ℕ → Bool) (pairs : List Tag) → ((name : List ℕ) → p name ≡ q name)
    → last_of p pairs ≡ last_of q pairs
same_last p q pairs h = ap (λ (t : List ℕ → Bool). last_of t pairs) (λ i. λ name. h name i)

-- one suffix more
pub last_with_more : (sample : List ℕ) (suffixes : List (List ℕ)) (i : ℕ) (suffix : List ℕ) (pairs : List Tag)
    (last one : Option ℕ) → i < length suffixes → get_or suffixes i [] ≡ suffix
    → last ≡ last_of (has_suffix_of sample (take i suffixes)) pairs
    → one ≡ last_of (λ name. bytes_eq (name ++ suffix) sample) pairs
    → later last one ≡ last_of (has_suffix_of sample (take (i + 1) suffixes)) pairs
last_with_more sample suffixes i suffix pairs last one below is e f =
    either (has_suffix_of sample (take i suffixes)) (λ name. bytes_eq (name ++ suffix) sample) pairs last one e f
    ∙ same_last (λ name. has_suffix_of sample (take i suffixes) name || bytes_eq (name ++ suffix) sample)
    (has_suffix_of sample (take (i + 1) suffixes)) pairs
    (λ name. sym (list_any_more (λ s. bytes_eq (name ++ s) sample) suffixes i [] below
    ∙ ap (λ (s : List ℕ). has_suffix_of sample (take i suffixes) name || bytes_eq (name ++ s) sample) is))

-- a sample's name is another name and a suffix exactly where it is so without the suffix
stem_same : (front other suffix : List ℕ) → bytes_eq other front ≡ bytes_eq (other ++ suffix) (front ++ suffix)
stem_same front other suffix = elim (bytes_eq other front) as
    (λ t. bytes_eq other front ≡ t → t ≡ bytes_eq (other ++ suffix) (front ++ suffix)) [
      | true ↦ λ e. sym (same_texts (other ++ suffix) (front ++ suffix)
          (ap (λ (l : List ℕ). l ++ suffix) ((bytes_eq-Decides other front).0 e)))
      | false ↦ λ e. sym (not_same (bytes_eq (other ++ suffix) (front ++ suffix))
          (λ both. let same = append_cancel_right other front suffix
          ((bytes_eq-Decides (other ++ suffix) (front ++ suffix)).0 both) in
          true_false (sym (same_texts other front same) ∙ e)))
    ] refl
  where
    true_false : true ≡ false → ⊥
    true_false e = absurd cc

pub stem_last : (name front suffix : List ℕ) (pairs : List Tag)
    → bytes_eq (drop (length name - length suffix) name) suffix ≡ true → front ≡ take (length name - length suffix) name
    → last_of (λ other. bytes_eq other front) pairs ≡ last_of (λ other. bytes_eq (other ++ suffix) name) pairs
stem_last name front suffix pairs ends is =
    let whole : front ++ suffix ≡ name =
    ap (λ (l : List ℕ). l ++ suffix) is ∙ ap (λ (l : List ℕ). take (length name - length suffix) name ++ l)
    (sym ((bytes_eq-Decides (drop (length name - length suffix) name) suffix).0 ends))
    ∙ take-append-drop (length name - length suffix) name in
    same_last (λ other. bytes_eq other front) (λ other. bytes_eq (other ++ suffix) name) pairs
    (λ other. stem_same front other suffix ∙ ap (bytes_eq (other ++ suffix)) whole)

pub no_stem : (name suffix : List ℕ) (pairs : List Tag) → bytes_eq (drop (length name - length suffix) name) suffix
    ≡ false → None ≡ last_of (λ other. bytes_eq (other ++ suffix) name) pairs
no_stem name suffix pairs other_end = none_last (λ other. bytes_eq (other ++ suffix) name) pairs
    (λ other. not_same (bytes_eq (other ++ suffix) name) (λ both. never other
    ((bytes_eq-Decides (other ++ suffix) name).0 both)))
  where
    never : (other : List ℕ) → other ++ suffix ≡ name → ⊥
    never other e =
        let n : length name - length suffix ≡ length other = omega (arith, ap length e, length-append other suffix) in
        let end : drop (length name - length suffix) name ≡ suffix =
        ap (λ (k : ℕ). drop k name) n ∙ ap (drop (length other)) (sym e) ∙ drop_at other suffix (length other) refl in
        let yes : bytes_eq (drop (length name - length suffix) name) suffix ≡ true =
        same_texts (drop (length name - length suffix) name) suffix end in
        let no : true ≡ false = sym yes ∙ other_end in absurd cc

-- one more TYPE line
pub types_more : (types : Types) (kinds : Vec (Bor (List ℕ)) Global) (last : BTreeMap (Bor (List ℕ)) ℕ)
    (pairs : List Tag) (name : List ℕ) (kind : Bor (List ℕ)) (index : ℕ)
    → HaveTypes types pairs → index ≡ length types.kinds.items → kinds.items ≡ types.kinds.items ++ kind ∷ []
    → ((q : List ℕ) → get_by (λ key. slice_cmp nat_cmp q key.now) last ≡ cond (bytes_eq name q) (Some index)
    (get_by (λ key. slice_cmp nat_cmp q key.now) types.last))
    → HaveTypes (record { kinds = kinds; last = last }) (pairs ++ (name, kind.now) ∷ [])
types_more types kinds last pairs name kind index h at pushed put = record {
  kinds = ap (map (λ (k : Bor (List ℕ)). k.now)) pushed ∙ map-append (λ (k : Bor (List ℕ)). k.now) types.kinds.items
      (kind ∷ []) ∙ ap (λ (l : List (List ℕ)). l ++ kind.now ∷ []) h.kinds
      ∙ sym (map-append (λ (pair : Tag). pair.1) pairs ((name, kind.now) ∷ []));
  last = λ q. put q ∙ rw (at_is, h.last q) (sym (last_of-push (λ other. bytes_eq other q) pairs (name, kind.now)));
}
  where
    at_is : index ≡ length pairs
    at_is = at ∙ sym (length-map types.kinds.items (λ (k : Bor (List ℕ)). k.now)) ∙ ap length h.kinds
        ∙ length-map pairs (λ (pair : Tag). pair.1)
