-- Texts of plain bytes are written as they are.
use Rattle.std.proofs.Common.{◌≡◌, ◌==◌, ◌-◌, ◌<◌, ℕ, zero, suc, Bool, true, false, not, List, [], ◌∷◌, length, take}
use Rattle.std.proofs.Common.{get_or, refl}
use Rattle.std.proofs.Common.{sym, ap, ◌∙◌, arith}
use Rattle.std.proofs.lemmas.List.{take_all}
use Rattle.std.proofs.lemmas.List.Sums.{suffix_len_is}
use Rattle.std.specs.Prelude.{codes}
use Rattle.std.specs.List.{list_all, list_any, suffix_len}
use Rattle.std.proofs.lemmas.Bool.{and_parts, ne_eqb, not-true}
use Rattle.metric.specs.Plain.{is_plain}
use Rattle.text_parts.specs.Escaped.{escaped}
use Rattle.line_proto.specs.LineText.{on_one_line, trimmed, text_escapes, key_text, name_text}
use Rattle.line_proto.proofs.WriteLemmas.{is_bare, bare_text, kept_key, kept_name}

clash : (b c : ℕ) → is_plain b ≡ true → is_plain c ≡ false → b ≡ c → ⊥
clash b c plain marked same = let e : false ≡ true = sym marked ∙ ap is_plain (sym same) ∙ plain in absurd (cc)

apart : (b c : ℕ) → is_plain b ≡ true → is_plain c ≡ false → (b == c) ≡ false
apart b c plain marked = ne_eqb b c (clash b c plain marked)

apart_from : (b c : ℕ) → is_plain b ≡ true → is_plain c ≡ false → (c == b) ≡ false
apart_from b c plain marked = ne_eqb c b (λ same. clash b c plain marked (sym same))

-- ---- marks that aren't plain

no_newline : is_plain 10 ≡ false
unfolding is_plain
no_newline = refl

no_carriage_return : is_plain 13 ≡ false
unfolding is_plain
no_carriage_return = refl

no_backslash : is_plain 92 ≡ false
unfolding is_plain
no_backslash = refl

-- none of these marks is plain
abbrev none_plain : List ℕ → Bool
none_plain marks = list_all (λ mark. not (is_plain mark)) marks

key_marks : none_plain (codes ",= ") ≡ true
unfolding is_plain
key_marks = refl

name_marks : none_plain (codes ", ") ≡ true
unfolding is_plain
name_marks = refl

text_marks : none_plain (codes "\"\\") ≡ true
unfolding is_plain
text_marks = refl

no_mark : (marks : List ℕ) (b : ℕ) → none_plain marks ≡ true → is_plain b ≡ true
    → list_any (λ mark. mark == b) marks ≡ false
no_mark [] b none plain = refl
no_mark (mark ∷ marks) b none plain =
    let parts = and_parts (not (is_plain mark)) (none_plain marks) none in
    rw (apart_from b mark plain (not-true _ parts.0), no_mark marks b parts.1 plain) refl

bare : (marks : List ℕ) (b : ℕ) → none_plain marks ≡ true → is_plain b ≡ true → is_bare marks b ≡ true
bare marks b none plain =
    rw (
      apart b 10 plain no_newline,
      apart b 13 plain no_carriage_return,
      no_mark marks b none plain,
    ) refl

all_bare : (marks text : List ℕ) → none_plain marks ≡ true → list_all is_plain text ≡ true
    → list_all (is_bare marks) text ≡ true
all_bare marks [] none h = refl
all_bare marks (b ∷ bs) none h =
    let parts = and_parts (is_plain b) (list_all is_plain bs) h in
    rw (bare marks b none parts.0, all_bare marks bs none parts.1) refl

front_plain : (n : ℕ) (text : List ℕ) → list_all is_plain text ≡ true → list_all is_plain (take n text) ≡ true
front_plain zero text h = refl
front_plain (suc n) [] h = refl
front_plain (suc n) (b ∷ bs) h =
    let parts = and_parts (is_plain b) (list_all is_plain bs) h in
    rw (parts.0, front_plain n bs parts.1) refl

kept_plain : (text kept : List ℕ) → kept ≡ trimmed text → list_all is_plain text ≡ true → list_all is_plain kept ≡ true
kept_plain text kept is h =
    ap (list_all is_plain) is ∙ front_plain (length text - suffix_len (λ b. b == 92) text) text h

plain_at : (text : List ℕ) (n : ℕ) → list_all is_plain text ≡ true → n < length text
    → is_plain (get_or text n 0) ≡ true
plain_at [] n h b = absurd (omega (arith, b))
plain_at (c ∷ cs) zero h b = (and_parts (is_plain c) (list_all is_plain cs) h).0
plain_at (c ∷ cs) (suc n) h b = plain_at cs n (and_parts (is_plain c) (list_all is_plain cs) h).1 (omega (arith, b))

-- a plain text has no backslash at its end
pub plain_trimmed : (text : List ℕ) → list_all is_plain text ≡ true → trimmed text ≡ text
plain_trimmed text h =
    let none : suffix_len (λ b. b == 92) text ≡ length text - length text =
    suffix_len_is (λ b. b == 92) text (length text) 0 (omega arith)
    (λ k least below. absurd (omega (arith, least, below)))
    (λ some. apart (get_or text (length text - 1) 0) 92
    (plain_at text (length text - 1) h (omega (arith, some))) no_backslash) in
    take_all (length text - suffix_len (λ b. b == 92) text) text (omega (arith, none))

pub word_key : (key kept : List ℕ) → kept ≡ trimmed key → 0 < length kept → list_all is_plain key ≡ true
    → kept ≡ key_text key
word_key key kept is some h =
    sym (bare_text (codes ",= ") kept (all_bare (codes ",= ") kept key_marks (kept_plain key kept is h)))
    ∙ kept_key key kept is some

-- a plain key is written as it is
pub plain_key : (key : List ℕ) → 0 < length key → list_all is_plain key ≡ true → key_text key ≡ key
plain_key key some h =
    let all = plain_trimmed key h in
    sym (word_key key (trimmed key) refl (omega (arith, some, ap length all)) h) ∙ all

pub word_name : (name kept : List ℕ) → kept ≡ trimmed name → 0 < length kept → (get_or kept 0 0 == 35) ≡ false
    → list_all is_plain name ≡ true
    → kept ≡ name_text name
word_name name kept is some no_hash h =
    sym (bare_text (codes ", ") kept (all_bare (codes ", ") kept name_marks (kept_plain name kept is h)))
    ∙ kept_name name kept 0 is some no_hash

pub word_quoted : (text : List ℕ) → list_all is_plain text ≡ true → text ≡ escaped text_escapes (on_one_line text)
word_quoted text h = sym (bare_text (codes "\"\\") text (all_bare (codes "\"\\") text text_marks h))
