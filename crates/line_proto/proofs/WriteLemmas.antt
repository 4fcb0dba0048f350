-- What the writer of lines appends.
use Rattle.std.proofs.Common.{◌≡◌, ◌==◌, ◌||◌, ◌&&◌, ◌-◌, ◌<◌, ◌≤◌, ℕ, Bool, true, false, not, cond, List, [], ◌∷◌}
use Rattle.std.proofs.Common.{◌++◌, length, take, drop, get_or, map, reverse, refl, sym, ap, ◌∙◌, arith}
use Rattle.std.specs.List.{list_all, list_any, flat_map, join_by, prefix_len, suffix_len}
use Rattle.std.proofs.lemmas.Bool.{and_parts, not-true, eqb-true}
use Rattle.std.proofs.lemmas.Grind.{common_steps}
use Rattle.std.proofs.lemmas.List.{map-append, length-map, reverse-append, take_all}
use Rattle.std.proofs.lemmas.List.Folds.{flat_map-map}
use Rattle.std.specs.List.{take-map}
use Rattle.std.specs.Prelude.{codes}
use Rattle.metric.specs.declared.value.Value.{Value}
use Rattle.line_proto.specs.OneLine.{ends_line}
use Rattle.line_proto.specs.LineText.{spaced, on_one_line, trimmed, or_underscore, without_hash, key_text, name_text}
use Rattle.line_proto.specs.LineText.{field_text, as_written, name_escapes, key_escapes}
use Rattle.text_parts.specs.Escaped.{Escapes, escaped, escaped_byte}

-- ---- bytes that are written as they are

-- a byte that is written as it is
abbrev pub is_bare : List ℕ → ℕ → Bool
is_bare marks b = not (b == 10) && not (b == 13) && not (list_any (λ mark. mark == b) marks)

bare_byte : (marks : List ℕ) (b : ℕ) → is_bare marks b ≡ true → escaped_byte (as_written marks) (spaced b) ≡ b ∷ []
bare_byte marks b h =
    let ends = and_parts (not (b == 10) && not (b == 13)) (not (list_any (λ mark. mark == b) marks)) h in
    let lines = and_parts (not (b == 10)) (not (b == 13)) ends.0 in
    let no_newline : (b == 10) ≡ false = not-true _ lines.0 in
    let no_return : (b == 13) ≡ false = not-true _ lines.1 in
    let no_mark : list_any (λ mark. mark == b) marks ≡ false = not-true _ ends.1 in
    rw (no_newline, no_return, no_mark) refl

written_bytes : (e : Escapes) (text : List ℕ) → escaped e (on_one_line text) ≡ flat_map
    (λ b. escaped_byte e (spaced b)) text
unfolding escaped
written_bytes e text = flat_map-map (escaped_byte e) spaced text

bare_bytes : (marks text : List ℕ) → list_all (is_bare marks) text ≡ true
    → flat_map (λ b. escaped_byte (as_written marks) (spaced b)) text ≡ text
bare_bytes marks [] h = refl
bare_bytes marks (b ∷ bs) h =
    let parts = and_parts (is_bare marks b) (list_all (is_bare marks) bs) h in
    rw (bare_byte marks b parts.0) (ap (λ rest. b ∷ rest) (bare_bytes marks bs parts.1))

pub bare_text : (marks text : List ℕ) → list_all (is_bare marks) text ≡ true
    → escaped (as_written marks) (on_one_line text) ≡ text
bare_text marks text h = written_bytes (as_written marks) text ∙ bare_bytes marks text h

-- a text without ends of lines is in one line
pub same_line : (text : List ℕ) → list_all (λ b. not (ends_line b)) text ≡ true → on_one_line text ≡ text
same_line [] h = refl
same_line (b ∷ bs) h =
    let parts = and_parts (not (ends_line b)) (list_all (λ c. not (ends_line c)) bs) h in
    let no_end : ends_line b ≡ false = not-true _ parts.0 in
    rw no_end (ap (λ (rest : List ℕ). b ∷ rest) (same_line bs parts.1))

-- ---- backslashes at the end

abbrev is_backslash : ℕ → Bool
is_backslash b = b == 92

spaced_backslash : (b : ℕ) → is_backslash (spaced b) ≡ is_backslash b
spaced_backslash b =
    elim (b == 10) as (λ t. (b == 10) ≡ t → is_backslash (cond (t || b == 13) 32 b) ≡ is_backslash b) [
      | true ↦ λ e. let is : b ≡ 10 = eqb-true b 10 e in rw is refl
      | false ↦ λ e. elim (b == 13) as (λ t. (b == 13) ≡ t → is_backslash (cond t 32 b) ≡ is_backslash b)
          [ true ↦ λ e'. let is : b ≡ 13 = eqb-true b 13 e' in rw is refl | false ↦ λ e'. refl ] refl
    ] refl

prefix_len-map : (text : List ℕ) → prefix_len is_backslash (map spaced text) ≡ prefix_len is_backslash text
prefix_len-map [] = refl
prefix_len-map (b ∷ bs) = rw (spaced_backslash b, prefix_len-map bs) refl

reverse-map : (f : ℕ → ℕ) (xs : List ℕ) → reverse (map f xs) ≡ map f (reverse xs)
reverse-map f [] = refl
reverse-map f (x ∷ xs) =
    reverse-append (f x ∷ []) (map f xs) ∙ ap (λ front. front ++ f x ∷ []) (reverse-map f xs)
    ∙ sym (map-append f (reverse xs) (x ∷ [])) ∙ ap (map f) (sym (reverse-append (x ∷ []) xs))

pub trimmed-on_one_line : (text : List ℕ) → trimmed (on_one_line text) ≡ on_one_line (trimmed text)
trimmed-on_one_line text =
    let tail : suffix_len is_backslash (map spaced text) ≡ suffix_len is_backslash text =
    ap (prefix_len is_backslash) (reverse-map spaced text) ∙ prefix_len-map (reverse text) in
    rw (length-map text spaced, tail) (take-map spaced (length text - suffix_len is_backslash text) text)

-- ---- loops

-- all bytes were written
pub all_written : (out old : List ℕ) (e : Escapes) (text : List ℕ) (i : ℕ) → length text ≤ i
    → out ≡ old ++ flat_map (λ b. escaped_byte e (spaced b)) (take i text) → out ≡ old ++ escaped e (on_one_line text)
all_written out old e text i end h =
    let all : take i text ≡ text = grind (arith, common_steps) in
    h ∙ ap (λ bytes. old ++ flat_map (λ b. escaped_byte e (spaced b)) bytes) all
    ∙ ap (λ bytes. old ++ bytes) (sym (written_bytes e text))

-- ---- keys and names

some_byte : (text : List ℕ) → 0 < length text → or_underscore (on_one_line text) ≡ on_one_line text
some_byte [] lt = absurd (omega arith)
some_byte (b ∷ bs) lt = refl

pub kept_key : (key kept : List ℕ) → kept ≡ trimmed key → 0 < length kept
    → escaped key_escapes (on_one_line kept) ≡ key_text key
unfolding key_text
kept_key key kept is lt =
    ap (escaped key_escapes) (sym (some_byte kept lt) ∙ ap (λ text. or_underscore (on_one_line text)) is
    ∙ ap or_underscore (sym (trimmed-on_one_line key)))

empty_text : (text kept : List ℕ) → kept ≡ trimmed text → length kept ≡ 0
    → or_underscore (trimmed (on_one_line text)) ≡ 95 ∷ []
empty_text text [] is none = ap or_underscore (trimmed-on_one_line text ∙ ap on_one_line (sym is))
empty_text text (b ∷ bs) is none = absurd (omega arith)

pub empty_key : (key kept : List ℕ) → kept ≡ trimmed key → length kept ≡ 0 → key_text key ≡ 95 ∷ []
unfolding key_text escaped
empty_key key kept is none = ap (escaped key_escapes) (empty_text key kept is none)

pub empty_name : (name kept : List ℕ) → kept ≡ trimmed name → length kept ≡ 0 → name_text name ≡ 95 ∷ []
unfolding name_text escaped
empty_name name kept is none = ap (λ text. escaped name_escapes (without_hash text)) (empty_text name kept is none)

spaced_hash : (b : ℕ) → (b == 35) ≡ false → (spaced b == 35) ≡ false
spaced_hash b h =
    elim (b == 10 || b == 13) as (λ t. (cond t 32 b == 35) ≡ false) [ true ↦ refl | false ↦ h ]

no_hash : (kept : List ℕ) (d : ℕ) → 0 < length kept → (get_or kept 0 d == 35) ≡ false
    → without_hash (or_underscore (on_one_line kept)) ≡ on_one_line kept
no_hash [] d lt h = absurd (omega arith)
no_hash (b ∷ bs) d lt h = rw (spaced_hash b h) refl

pub kept_name : (name kept : List ℕ) (d : ℕ) → kept ≡ trimmed name → 0 < length kept → (get_or kept 0 d == 35) ≡ false
    → escaped name_escapes (on_one_line kept) ≡ name_text name
unfolding name_text
kept_name name kept d is lt h =
    ap (escaped name_escapes) (sym (no_hash kept d lt h) ∙ ap (λ text. without_hash (or_underscore (on_one_line text)))
    is ∙ ap (λ text. without_hash (or_underscore text)) (sym (trimmed-on_one_line name)))

hash : (kept : List ℕ) → 0 < length kept → get_or kept 0 0 ≡ 35
    → without_hash (or_underscore (on_one_line kept)) ≡ 95 ∷ on_one_line (take (length kept - 1) (drop 1 kept))
hash [] lt h = absurd (omega arith)
hash (b ∷ bs) lt h =
    let rest : take (length (b ∷ bs) - 1) bs ≡ bs = take_all _ _ (omega arith) in
    rw (h, rest) refl

pub hashed_name : (name kept : List ℕ) → kept ≡ trimmed name → 0 < length kept → get_or kept 0 0 ≡ 35
    → (95 ∷ []) ++ escaped name_escapes (on_one_line (take (length kept - 1) (drop 1 kept))) ≡ name_text name
unfolding name_text escaped
hashed_name name kept is lt h =
    ap (escaped name_escapes) (sym (hash kept lt h) ∙ ap (λ text. without_hash (or_underscore (on_one_line text))) is
    ∙ ap (λ text. without_hash (or_underscore text)) (sym (trimmed-on_one_line name)))

-- ---- fields

pub first_field : (fields : List (List ℕ × Value)) (d : List ℕ × Value) → 0 < length fields → d ≡ get_or fields 0 d
    → field_text d ++ flat_map (λ field. codes "," ++ field_text field) (take (length fields - 1) (drop 1 fields))
    ≡ join_by field_text (codes ",") fields
first_field [] d lt is = absurd (omega arith)
first_field (field ∷ fields) d lt is =
    let rest : take (length (field ∷ fields) - 1) fields ≡ fields = take_all _ _ (omega arith) in
    rw (is, rest) refl
