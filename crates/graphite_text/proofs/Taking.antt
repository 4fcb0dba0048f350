-- What a thing takes of the segments, part by part.
use Rattle.std.proofs.Common.{◌≡◌, ℕ, ◌+◌, ◌-◌, ◌<◌, ◌≤◌, List, [], ◌∷◌, ◌++◌, length, get_or, take, drop, map, refl}
use Rattle.std.proofs.Common.{sym, ap, subst, ◌∙◌, arith}
use Rattle.std.specs.Borrow.{Bor}
use Rattle.std.specs.Prelude.{Option, Some, None, MatchOption, codes}
use Rattle.std.proofs.lemmas.List.{append-nil}
use Rattle.format_words.specs.declared.template.TemplatePart.{TemplatePart}
use Rattle.graphite_text.specs.declared.collected.Share.{Share}
use Rattle.graphite_text.specs.declared.collected.Share.TheVariants.{Nothing, One, Rest}
use Rattle.graphite_text.specs.declared.collected.Taken.{Taken}
use Rattle.graphite_text.specs.declared.collected.Taken.TheVariants as taken
use Rattle.graphite_text.specs.declared.collected.JoinedText.{JoinedText}
use Rattle.graphite_text.specs.Applied.{name_share, key_share, collected, joined, or_all, name_of, key_from, key_of}
use Rattle.graphite_text.specs.Taken.{joined_view, AreJoined, Takes}
use Rattle.format_words.specs.Views.{now_of}
use Rattle.format_words.proofs.Texts.{map_push}
use Rattle.graphite_text.proofs.Collecting.{Stands, none_taken, one_taken, rest_taken, parts_end, texts_end}

-- what is taken before an offset
pub record Taking (share : TemplatePart → Share) (all : List TemplatePart) (xs : List (Bor (List ℕ))) (taken : Taken)
    (i : ℕ) : Type 0 where
  pub texts : List (Bor (List ℕ))
  pub takes : Takes taken (map now_of texts)
  pub stands : Stands share all xs texts i

pub nothing_taken : (share : TemplatePart → Share) (all : List TemplatePart) (xs : List (Bor (List ℕ)))
    → Taking share all xs taken.Nothing 0
nothing_taken share all xs = record { texts = []; takes = refl; stands = refl }

pub taking_none : (share : TemplatePart → Share) (all : List TemplatePart) (xs : List (Bor (List ℕ))) (i : ℕ)
    (part : TemplatePart) (taken : Taken)
    → i < length all → i < length xs → part ≡ get_or all i part → share part ≡ Nothing → Taking share all xs taken i
    → Taking share all xs taken (i + 1)
taking_none share all xs i part taken lt within is e t = record {
  texts = t.texts;
  takes = t.takes;
  stands = none_taken share all xs (record { ref_ptr = (0, 0); now = [] }) i part t.texts lt within is e t.stands;
}

pub taking_one : (share : TemplatePart → Share) (all : List TemplatePart) (xs : List (Bor (List ℕ))) (d : Bor (List ℕ))
    (i : ℕ) (part : TemplatePart) (old new : Taken)
    → i < length all → i < length xs → part ≡ get_or all i part → share part ≡ One
    → ((texts : List (List ℕ)) → Takes old texts → Takes new (texts ++ now_of (get_or xs i d) ∷ []))
    → Taking share all xs old i → Taking share all xs new (i + 1)
taking_one share all xs d i part old new lt within is e step t = record {
  texts = t.texts ++ get_or xs i d ∷ [];
  takes = subst (Takes new) (sym (map_push now_of t.texts (get_or xs i d))) (step (map now_of t.texts) t.takes);
  stands = one_taken share all xs d i part t.texts (t.texts ++ get_or xs i d ∷ []) lt within is e refl t.stands;
}

map_append : {A B : Type 0} (f : A → B) (xs ys : List A) → map f (xs ++ ys) ≡ map f xs ++ map f ys
map_append f [] ys = refl
map_append {B = B} f (x ∷ xs) ys = ap (λ (zs : List B). f x ∷ zs) (map_append f xs ys)

pub taking_rest : (share : TemplatePart → Share) (all : List TemplatePart) (xs rest : List (Bor (List ℕ))) (i : ℕ)
    (part : TemplatePart) (old new : Taken)
    → i < length all → i < length xs → part ≡ get_or all i part → share part ≡ Rest
    → rest ≡ take (length xs - i) (drop i xs)
    → ((texts : List (List ℕ)) → Takes old texts → Takes new (texts ++ map now_of rest))
    → Taking share all xs old i → Takes new (collected share all (map now_of xs))
taking_rest share all xs rest i part old new lt within is e rests step t =
    let whole = ap (λ (ts : List (Bor (List ℕ))). t.texts ++ ts) rests in
    subst (Takes new)
    (sym (map_append now_of t.texts rest) ∙ rest_taken share all xs (record { ref_ptr = (0, 0); now = [] }) i part
    t.texts (t.texts ++ rest) lt within is e whole t.stands)
    (step (map now_of t.texts) t.takes)

pub taking_parts : (share : TemplatePart → Share) (all : List TemplatePart) (xs : List (Bor (List ℕ))) (i : ℕ)
    (taken : Taken) → length all ≤ i → Taking share all xs taken i
    → Takes taken (collected share all (map now_of xs))
taking_parts share all xs i taken le t = subst (Takes taken) (parts_end share all xs t.texts i le t.stands) t.takes

pub taking_texts : (share : TemplatePart → Share) (all : List TemplatePart) (xs : List (Bor (List ℕ))) (i : ℕ)
    (taken : Taken) → length xs ≤ i → Taking share all xs taken i
    → Takes taken (collected share all (map now_of xs))
taking_texts share all xs i taken le t = subst (Takes taken) (texts_end share all xs t.texts i le t.stands) t.takes

-- ---- joined

pub one_joined : (separator : List ℕ) (xs : List (Bor (List ℕ))) (d : Bor (List ℕ)) → length xs ≡ 1
    → now_of (get_or xs 0 d) ≡ joined separator (map now_of xs)
unfolding joined
one_joined separator [] d one = absurd (omega (arith, one))
one_joined separator (x ∷ []) d one = sym (append-nil x.now)
one_joined separator (x ∷ y ∷ xs) d one = absurd (omega (arith, one))

alone_joined : (separator text : List ℕ) → text ≡ joined separator (text ∷ [])
unfolding joined
alone_joined separator text = sym (append-nil text)

pub alone : (separator : List ℕ) (texts : List (List ℕ)) (text : List ℕ) → texts ≡ text ∷ []
    → AreJoined separator texts text
alone separator texts text e = record {
  some = rw e (omega arith);
  joins = alone_joined separator text ∙ ap (joined separator) (sym e);
}

-- what is found of a thing
abbrev Found : List ℕ → List (List ℕ) → Option JoinedText → Type 0
Found separator texts found = MatchOption found (texts ≡ []) (λ text. AreJoined separator texts (joined_view text))

pub found_some : (separator : List ℕ) (texts : List (List ℕ)) (found : Option JoinedText) (text : JoinedText)
    → found ≡ Some text
    → MatchOption found (texts ≡ []) (λ text. AreJoined separator texts (joined_view text))
    → AreJoined separator texts (joined_view text)
found_some separator texts found text is h = subst (Found separator texts) is h

pub found_none : (separator : List ℕ) (texts : List (List ℕ)) (found : Option JoinedText) → found ≡ None
    → MatchOption found (texts ≡ []) (λ text. AreJoined separator texts (joined_view text)) → texts ≡ []
found_none separator texts found is h = subst (Found separator texts) is h

name_all : (texts segments : List (List ℕ)) → 0 < length texts → or_all texts segments ≡ texts
name_all [] segments some = absurd (omega (arith, some))
name_all (text ∷ texts) segments some = refl

key_all : (separator : List ℕ) (texts : List (List ℕ)) → 0 < length texts
    → key_from separator texts ≡ joined separator texts
key_all separator [] some = absurd (omega (arith, some))
key_all separator (text ∷ texts) some = refl

pub name_joined : (separator : List ℕ) (all : List TemplatePart) (segments : List (List ℕ)) (name : List ℕ)
    → AreJoined separator (collected name_share all segments) name
    → name ≡ name_of separator all segments
unfolding name_of
name_joined separator all segments name j = j.joins ∙ ap (joined separator)
    (sym (name_all (collected name_share all segments) segments j.some))

pub name_whole : (separator : List ℕ) (all : List TemplatePart) (segments : List (List ℕ))
    → collected name_share all segments ≡ [] → joined separator segments ≡ name_of separator all segments
unfolding name_of
name_whole separator all segments none = rw none refl

pub key_joined : (separator : List ℕ) (all : List TemplatePart) (segments : List (List ℕ)) (key : List ℕ)
    → AreJoined separator (collected key_share all segments) key
    → key ≡ key_of separator all segments
unfolding key_of
key_joined separator all segments key j = j.joins ∙ sym (key_all separator (collected key_share all segments) j.some)

pub key_value : (separator : List ℕ) (all : List TemplatePart) (segments : List (List ℕ))
    → collected key_share all segments ≡ [] → codes "value" ≡ key_of separator all segments
unfolding key_of
key_value separator all segments none = rw none refl

pub none_joined : (separator : List ℕ) (texts : List (List ℕ)) → texts ≡ [] → [] ≡ joined separator texts
unfolding joined
none_joined separator texts none = rw none refl
