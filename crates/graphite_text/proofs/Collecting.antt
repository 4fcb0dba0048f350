-- What the parts of a template take, part by part.
use Rattle.std.proofs.Common.{◌≡◌, ℕ, zero, suc, ◌+◌, ◌-◌, ◌<◌, ◌≤◌, Bool, true, false, List, [], ◌∷◌, ◌++◌, length}
use Rattle.std.proofs.Common.{get_or, take, drop, take_all, map, refl, sym, ap, ◌∙◌, append_assoc, arith, length-drop}
use Rattle.std.proofs.Common.{length-append, Some}
use Rattle.std.specs.Prelude.{flat_map}
use Rattle.std.specs.Borrow.{Bor}
use Rattle.std.specs.List.{AllByRecursion, find}
use Rattle.std.proofs.lemmas.List.{append-nil, drop_all, take_more}
use Rattle.metric.specs.Draft.{Tag}
use Rattle.format_words.specs.declared.template.TemplatePart.{TemplatePart}
use Rattle.format_words.specs.declared.template.TemplatePart.TheVariants as parts
use Rattle.graphite_text.specs.declared.collected.Share.{Share}
use Rattle.graphite_text.specs.declared.collected.Share.TheVariants.{Nothing, One, Rest}
use Rattle.graphite_text.specs.Applied.{with_share, collected, joined, or_all, name_share, key_share, tag_share}
use Rattle.graphite_text.specs.Applied.{name_of, key_from, key_of, tags_at}
use Rattle.format_words.specs.Template.{Shape}
use Rattle.format_words.specs.Views.{now_of, tag_view}
use Rattle.format_words.proofs.Texts.{map_push, map_length, map_drop, flat_push, from, texts_from}

-- ---- collecting

collected_at : (share : TemplatePart → Share) (all : List TemplatePart) (xs : List (Bor (List ℕ))) (d : Bor (List ℕ))
    (i : ℕ) (part : TemplatePart) (s : Share)
    → i < length all → i < length xs → part ≡ get_or all i part → share part ≡ s
    → collected share (drop i all) (drop i (map now_of xs))
    ≡ with_share s (now_of (get_or xs i d)) (drop (i + 1) (map now_of xs))
    (collected share (drop (i + 1) all) (drop (i + 1) (map now_of xs)))
unfolding collected
collected_at share all xs d i part s lt within is e =
    rw (from all i part lt is, texts_from xs i d within, e) refl

-- where the loop stands
abbrev pub Stands : (TemplatePart → Share) → List TemplatePart → List (Bor (List ℕ)) → List (Bor (List ℕ)) → ℕ → Type 0
Stands share all xs texts i = map now_of texts ++ collected share (drop i all)
    (drop i (map now_of xs)) ≡ collected share all (map now_of xs)

pub none_taken : (share : TemplatePart → Share) (all : List TemplatePart) (xs : List (Bor (List ℕ))) (d : Bor (List ℕ))
    (i : ℕ) (part : TemplatePart) (texts : List (Bor (List ℕ)))
    → i < length all → i < length xs → part ≡ get_or all i part → share part ≡ Nothing → Stands share all xs texts i
    → Stands share all xs texts (i + 1)
none_taken share all xs d i part texts lt within is e h =
    ap (λ (ts : List (List ℕ)). map now_of texts ++ ts) (sym
    (collected_at share all xs d i part Nothing lt within is e)) ∙ h

pub one_taken : (share : TemplatePart → Share) (all : List TemplatePart) (xs : List (Bor (List ℕ))) (d : Bor (List ℕ))
    (i : ℕ) (part : TemplatePart) (texts new : List (Bor (List ℕ)))
    → i < length all → i < length xs → part ≡ get_or all i part → share part ≡ One → new ≡ texts ++ get_or xs i d ∷ []
    → Stands share all xs texts i → Stands share all xs new (i + 1)
one_taken share all xs d i part texts new lt within is e put h =
    ap (λ (ts : List (Bor (List ℕ))). map now_of ts ++ collected share (drop (i + 1) all)
    (drop (i + 1) (map now_of xs))) put
    ∙ ap (λ (ts : List (List ℕ)). ts ++ collected share (drop (i + 1) all) (drop (i + 1) (map now_of xs)))
    (map_push now_of texts (get_or xs i d))
    ∙ append_assoc (map now_of texts) (now_of (get_or xs i d) ∷ [])
    (collected share (drop (i + 1) all) (drop (i + 1) (map now_of xs)))
    ∙ ap (λ (ts : List (List ℕ)). map now_of texts ++ ts) (sym (collected_at share all xs d i part One lt within is e))
    ∙ h

map_append : {A B : Type 0} (f : A → B) (xs ys : List A) → map f (xs ++ ys) ≡ map f xs ++ map f ys
map_append f [] ys = refl
map_append {B = B} f (x ∷ xs) ys = ap (λ (zs : List B). f x ∷ zs) (map_append f xs ys)

pub rest_taken : (share : TemplatePart → Share) (all : List TemplatePart) (xs : List (Bor (List ℕ))) (d : Bor (List ℕ))
    (i : ℕ) (part : TemplatePart) (texts new : List (Bor (List ℕ)))
    → i < length all → i < length xs → part ≡ get_or all i part → share part ≡ Rest
    → new ≡ texts ++ take (length xs - i) (drop i xs) → Stands share all xs texts i
    → map now_of new ≡ collected share all (map now_of xs)
rest_taken share all xs d i part texts new lt within is e put h =
    let whole : take (length xs - i) (drop i xs) ≡ drop i xs =
    take_all (length xs - i) (drop i xs) (omega (arith, length-drop i xs)) in
    ap (map now_of) (put ∙ ap (λ (ts : List (Bor (List ℕ))). texts ++ ts) whole)
    ∙ map_append now_of texts (drop i xs)
    ∙ ap (λ (ts : List (List ℕ)). map now_of texts ++ ts)
    (sym (map_drop now_of i xs) ∙ texts_from xs i d within ∙ sym
    (collected_at share all xs d i part Rest lt within is e))
    ∙ h

collected_none : (share : TemplatePart → Share) (all : List TemplatePart) → collected share all [] ≡ []
unfolding collected
collected_none share [] = refl
collected_none share (part ∷ all) = refl

pub parts_end : (share : TemplatePart → Share) (all : List TemplatePart) (xs texts : List (Bor (List ℕ))) (i : ℕ)
    → length all ≤ i → Stands share all xs texts i → map now_of texts ≡ collected share all (map now_of xs)
unfolding collected
parts_end share all xs texts i le h =
    sym (append-nil (map now_of texts)) ∙ ap (λ (ps : List TemplatePart). map now_of texts
    ++ collected share ps (drop i (map now_of xs))) (sym (drop_all i all le)) ∙ h

pub texts_end : (share : TemplatePart → Share) (all : List TemplatePart) (xs texts : List (Bor (List ℕ))) (i : ℕ)
    → length xs ≤ i → Stands share all xs texts i → map now_of texts ≡ collected share all (map now_of xs)
texts_end share all xs texts i le h =
    let none : drop i (map now_of xs) ≡ [] = drop_all i (map now_of xs) (omega (arith, le, map_length now_of xs)) in
    sym (append-nil (map now_of texts))
    ∙ ap (λ (ts : List (List ℕ)). map now_of texts ++ ts) (sym (collected_none share (drop i all)))
    ∙ ap (λ (ts : List (List ℕ)). map now_of texts ++ collected share (drop i all) ts) (sym none) ∙ h

-- ---- the template that serves

pub found_at : (p : Shape → Bool) (templates : List Shape) (i : ℕ) (template : Shape) → i < length templates
    → template ≡ get_or templates i template → p template ≡ true
    → find p (drop i templates) ≡ find p templates → find p templates ≡ Some template
found_at p templates i template lt is e h = sym h ∙ rw (from templates i template lt is, e) refl

pub passed_at : (p : Shape → Bool) (templates : List Shape) (i : ℕ) (template : Shape) → i < length templates
    → template ≡ get_or templates i template → p template ≡ false
    → find p (drop i templates) ≡ find p templates → find p (drop (i + 1) templates) ≡ find p templates
passed_at p templates i template lt is e h = sym (rw (from templates i template lt is, e) refl) ∙ h

-- ---- nothing that is joined is empty

AreSome : List (List ℕ) → Type 0
AreSome texts = AllByRecursion (λ (text : List ℕ). 0 < length text) texts

shared_some : (s : Share) (text : List ℕ) (behind others : List (List ℕ)) → 0 < length text → AreSome behind
    → AreSome others → AreSome (with_share s text behind others)
unfolding AreSome
shared_some Nothing text behind others h b o = o
shared_some One text behind others h b o = (h, o)
shared_some Rest text behind others h b o = (h, b)

collected_some : (share : TemplatePart → Share) (all : List TemplatePart) (segments : List (List ℕ)) → AreSome segments
    → AreSome (collected share all segments)
unfolding AreSome collected
collected_some share [] segments h = tt
collected_some share (part ∷ all) [] h = tt
collected_some share (part ∷ all) (text ∷ segments) h =
    shared_some (share part) text segments (collected share all segments) h.0 h.1
    (collected_some share all segments h.1)

joined_some : (separator : List ℕ) (texts : List (List ℕ)) → 0 < length texts → AreSome texts
    → 0 < length (joined separator texts)
unfolding AreSome joined
joined_some separator [] some h = some
joined_some separator (text ∷ texts) some h = omega (
  arith,
  h.0,
  length-append text (flat_map (λ other. separator ++ other) texts),
)

name_from_some : (separator : List ℕ) (texts segments : List (List ℕ)) → AreSome texts → 0 < length segments
    → AreSome segments → 0 < length (joined separator (or_all texts segments))
name_from_some separator [] segments t some h = joined_some separator segments some h
name_from_some separator (text ∷ texts) segments t some h = joined_some separator (text ∷ texts) (omega arith) t

pub name_some : (separator : List ℕ) (all : List TemplatePart) (segments : List (List ℕ)) → 0 < length segments
    → AllByRecursion (λ (text : List ℕ). 0 < length text) segments → 0 < length (name_of separator all segments)
unfolding name_of AreSome
name_some separator all segments some h = name_from_some separator (collected name_share all segments) segments
    (collected_some name_share all segments h) some h

key_from_some : (separator : List ℕ) (texts : List (List ℕ)) → AreSome texts → 0 < length (key_from separator texts)
key_from_some separator [] h = omega arith
key_from_some separator (text ∷ texts) h = joined_some separator (text ∷ texts) (omega arith) h

pub key_some : (separator : List ℕ) (all : List TemplatePart) (segments : List (List ℕ))
    → AllByRecursion (λ (text : List ℕ). 0 < length text) segments → 0 < length (key_of separator all segments)
unfolding key_of AreSome
key_some separator all segments h = key_from_some separator (collected key_share all segments)
    (collected_some key_share all segments h)

-- ---- tags

pub tag_at_part : (separator : List ℕ) (all : List TemplatePart) (segments : List (List ℕ)) (part : TemplatePart)
    (key name value : List ℕ) → part ≡ parts.Tag key → name ≡ key
    → value ≡ joined separator (collected (tag_share key) all segments)
    → (name, value) ∷ [] ≡ tags_at separator all segments part
tag_at_part separator all segments part key name value is n v = rw (is, n, v) refl

-- the tags of the parts so far, and one part more
pub tags_more : (separator : List ℕ) (all : List TemplatePart) (segments : List (List ℕ)) (given : List Tag) (i : ℕ)
    (part : TemplatePart) → i < length all → part ≡ get_or all i part
    → (given ++ flat_map (tags_at separator all segments) (take i all)) ++ tags_at separator all segments part ≡ given
    ++ flat_map (tags_at separator all segments) (take (i + 1) all)
tags_more separator all segments given i part lt is =
    let more : take (i + 1) all ≡ take i all ++ part ∷ [] = take_more all i part lt
    ∙ ap (λ (p : TemplatePart). take i all ++ p ∷ []) (sym is) in
    append_assoc given (flat_map (tags_at separator all segments) (take i all)) (tags_at separator all segments part)
    ∙ ap (λ (ts : List Tag). given ++ ts)
    (sym (flat_push (tags_at separator all segments) (take i all) part)
    ∙ ap (flat_map (tags_at separator all segments)) (sym more))

pub taken_all : (all : List TemplatePart) (xs : List (Bor (List ℕ))) (i : ℕ) → i ≤ length xs → length all ≤ i
    → take i all ≡ take (length (map now_of xs)) all
taken_all all xs i within le =
    take_all i all le ∙ sym (take_all (length (map now_of xs)) all (omega (arith, within, le, map_length now_of xs)))

pub taken_some : (all : List TemplatePart) (xs : List (Bor (List ℕ))) (i : ℕ) → i ≤ length xs → length xs ≤ i
    → take i all ≡ take (length (map now_of xs)) all
taken_some all xs i within le = ap (λ (n : ℕ). take n all) (omega (arith, within, le, map_length now_of xs))

pub key_at : (tags : List (Bor (List ℕ) × Bor (List ℕ))) (i : ℕ) (d : Bor (List ℕ) × Bor (List ℕ)) → i < length tags
    → AllByRecursion (λ (t : Tag). 0 < length t.0) (map tag_view tags) → 0 < length (get_or tags i d).0.now
key_at [] i d lt h = absurd (omega arith)
key_at (t ∷ tags) zero d lt h = h.0
key_at (t ∷ tags) (suc i) d lt h = key_at tags i d (omega arith) h.1
