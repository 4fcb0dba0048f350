-- Bytes that are written as they are, and bytes that are escaped.
use Rattle.std.proofs.Common.{◌≡◌, ℕ, suc, ◌+◌, true, false, List, [], ◌∷◌, ◌++◌, length, get_or, take, drop}
use Rattle.std.proofs.Common.{refl, sym, ◌∙◌, ap, append_assoc, arith}
use Rattle.std.specs.List.{prefix_len, list_all}
use Rattle.std.proofs.lemmas.List.{append-nil, nil_from_length}
use Rattle.metric.specs.Plain.{is_plain}
use Rattle.journal_text.specs.MetricText.{byte_text, escaped}
use Rattle.std.proofs.Common.{◌≤◌, length-take}
use Rattle.std.proofs.lemmas.Grind.{common_steps}
use Rattle.std.proofs.Math.Seq.{take-append_seam}
use Rattle.text_parts.specs.Adds.{Extends}

-- what was appended leaves the old text at the front
pub extends_by : (old new more : List ℕ) → new ≡ old ++ more → Extends old new
extends_by old new more e = rw e (take-append_seam old more)

-- what stands at the front of what stands at the front
pub extends_trans : (old mid new : List ℕ) → Extends old mid → Extends mid new → Extends old new
extends_trans old mid new first then =
    let longer : length old ≤ length mid = omega (arith, ap length first, length-take (length old) mid) in
    let within : take (length old) (take (length mid) new) ≡ take (length old) new = grind (arith, common_steps) in
    sym within ∙ ap (take (length old)) then ∙ first

byte_plain : (b : ℕ) → is_plain b ≡ true → byte_text b ≡ b ∷ []
unfolding byte_text
byte_plain b plain = rw plain refl

-- plain bytes at the front stand as they are, and the next byte isn't plain
record IsFront (bytes : List ℕ) : Type 0 where
  is : escaped bytes ≡ take (prefix_len is_plain bytes) bytes ++ escaped (drop (prefix_len is_plain bytes) bytes)
  other : (b : ℕ) (others : List ℕ) → drop (prefix_len is_plain bytes) bytes ≡ b ∷ others → is_plain b ≡ false

front_plain : (b : ℕ) (bs : List ℕ) → is_plain b ≡ true → IsFront bs → IsFront (b ∷ bs)
unfolding escaped
front_plain b bs plain front =
    let one : 1 + prefix_len is_plain bs ≡ suc (prefix_len is_plain bs) = omega arith in
    record {
      is = rw (plain, one, byte_plain b plain) (ap (λ t. b ∷ t) front.is);
      other = λ c others e. front.other c others (rw (plain, one) at e);
    }

front_other : (b : ℕ) (bs : List ℕ) → is_plain b ≡ false → IsFront (b ∷ bs)
front_other b bs other = record {
  is = rw other refl;
  other = λ c others e. let same : b ∷ bs ≡ c ∷ others = rw other at e in
      ap is_plain (sym (ap (λ l. get_or l 0 0) same)) ∙ other;
}

never : (c : ℕ) (others : List ℕ) → [] ≡ c ∷ others → is_plain c ≡ false
never c others e = absurd (cc)

front : (bytes : List ℕ) → IsFront bytes
unfolding escaped
front [] = record { is = refl; other = never }
front (b ∷ bs) = elim (is_plain b) as (λ t. is_plain b ≡ t → IsFront (b ∷ bs))
    [ true ↦ λ plain. front_plain b bs plain (front bs) | false ↦ λ no. front_other b bs no ] refl

-- bytes cut behind their plain front
pub record IsCut (bytes : List ℕ) (n : ℕ) (first behind : List ℕ) : Type 0 where
  pub plain : n ≡ prefix_len is_plain bytes
  pub front : first ≡ take n bytes
  pub back : behind ≡ drop n bytes

behind_is : {bytes : List ℕ} {n : ℕ} {first behind : List ℕ} → IsCut bytes n first behind →
    drop (prefix_len is_plain bytes) bytes ≡ behind
behind_is {bytes = bytes} cut = sym (cut.back ∙ ap (λ k. drop k bytes) cut.plain)

first_is : {bytes : List ℕ} {n : ℕ} {first behind : List ℕ} → IsCut bytes n first behind →
    first ≡ take (prefix_len is_plain bytes) bytes
first_is {bytes = bytes} cut = cut.front ∙ ap (λ k. take k bytes) cut.plain

parts_are : {bytes : List ℕ} {n : ℕ} {first behind : List ℕ} → IsCut bytes n first behind →
    first ++ escaped behind ≡ escaped bytes
parts_are {bytes = bytes} {behind = behind} cut =
    ap (λ t. t ++ escaped behind) (first_is cut)
    ∙ ap (λ t. take (prefix_len is_plain bytes) bytes ++ escaped t) (sym (behind_is cut))
    ∙ sym ((front bytes).is)

-- the byte behind the plain ones isn't plain
pub behind_front : {bytes : List ℕ} {n : ℕ} {first behind : List ℕ} → IsCut bytes n first behind →
    (b : ℕ) (others : List ℕ) → behind ≡ b ∷ others → is_plain b ≡ false
behind_front {bytes = bytes} cut b others e = (front bytes).other b others (behind_is cut ∙ e)

-- all bytes were plain
pub escaped_end : {bytes : List ℕ} {n : ℕ} {first behind : List ℕ} → IsCut bytes n first behind →
    length behind ≡ 0 → (out new all : List ℕ) → out ++ escaped bytes ≡ all → new ≡ out ++ first → new ≡ all
unfolding escaped
escaped_end {bytes = bytes} {first = first} {behind = behind} cut none out new all before then =
    then ∙ ap (λ t. out ++ t) (sym (append-nil first) ∙ ap (λ t. first ++ escaped t) (sym (nil_from_length behind none))
    ∙ parts_are cut) ∙ before

-- plain bytes, and one that is escaped
pub escaped_more : {bytes : List ℕ} {n : ℕ} {first behind : List ℕ} → IsCut bytes n first behind →
    (b : ℕ) (others : List ℕ) → behind ≡ b ∷ others → (out mid new all : List ℕ) →
    out ++ escaped bytes ≡ all → mid ≡ out ++ first → new ≡ mid ++ byte_text b → new ++ escaped others ≡ all
unfolding escaped
escaped_more {bytes =
    bytes} {first = first} {behind = behind} cut b others e out mid new all before then last =
    ap (λ t. t ++ escaped others) (last ∙ ap (λ t. t ++ byte_text b) then)
    ∙ append_assoc (out ++ first) (byte_text b) (escaped others)
    ∙ append_assoc out first (byte_text b ++ escaped others)
    ∙ ap (λ t. out ++ (first ++ escaped t)) (sym e)
    ∙ ap (λ t. out ++ t) (parts_are cut) ∙ before

plain_more : (b : ℕ) (bs : List ℕ) → is_plain b ≡ true → escaped bs ≡ bs → escaped (b ∷ bs) ≡ b ∷ bs
unfolding escaped
plain_more b bs plain others = ap (λ t. byte_text b ++ t) others ∙ ap (λ t. t ++ bs) (byte_plain b plain)

-- plain bytes stand as they are
pub plain_text : (bs : List ℕ) → list_all is_plain bs ≡ true → escaped bs ≡ bs
unfolding escaped
plain_text [] all = refl
plain_text (b ∷ bs) all = elim (is_plain b) as (λ t. is_plain b ≡ t → escaped (b ∷ bs) ≡ b ∷ bs) [
  | true ↦ λ plain. plain_more b bs plain (plain_text bs (rw plain at all))
  | false ↦ λ no. let none : false ≡ true = rw no at all in absurd (cc)
] refl
