-- The raw items of an input, with one entry more.
use Rattle.std.proofs.Common.{◌≡◌, ◌≢◌, ℕ, zero, suc, Bool, true, false, cond, List, [], ◌∷◌, ◌++◌, length}
use Rattle.std.proofs.Common.{drop, replicate, refl, ap, sym, ◌∙◌, arith}
use Rattle.std.specs.List.{filter}
use Rattle.std.specs.declared.option.Option.{Option}
use Rattle.std.specs.declared.option.Option.TheVariants.{Some}
use Rattle.std.proofs.lemmas.List.{drop-append-le, drop-drop, length-drop, nil_from_length}
use Rattle.std.proofs.lemmas.List.Elements.{filter-append}
use Rattle.metric.specs.declared.metric.Content.{Content}
use Rattle.account.specs.Setup.{Setup}
use Rattle.account.specs.Items.{items, taken, takes_by, raw_items}
use Rattle.account.specs.Origins.{Origin, made, origins, origins_by, is_of_input, raw_of}
use Rattle.account.specs.declared.entry.Entry.{Entry}
use Rattle.account.proofs.OriginLemmas.{origins-match, origins-push}
use Rattle.pipeline_core.specs.Legal.{IsLegal}
use Rattle.pipeline_core.proofs.JournalPush.{taken-push, few_taken}
use Rattle.pipeline_core.proofs.Keeping.{differs}

skip : (p : Origin → Bool) (b : Bool) (x : Origin) (xs : List Origin) → cond b (x ∷ filter p xs) (filter p xs) ≡ []
    → filter p xs ≡ []
skip p true x xs h = absurd (let z : x ∷ filter p xs ≡ [] = h in cc)
skip p false x xs h = h

-- where none of a list passes, none of what is behind its first ones does
none_behind : (p : Origin → Bool) (n : ℕ) (xs : List Origin) → filter p xs ≡ [] → filter p (drop n xs) ≡ []
none_behind p zero xs h = h
none_behind p (suc n) [] h = refl
none_behind p (suc n) (x ∷ xs) h = none_behind p n xs (skip p (p x) x xs h)

none_same : (p : Origin → Bool) (n : ℕ) (x : Origin) → p x ≡ false → filter p (replicate n x) ≡ []
none_same p zero x differs_all = refl
none_same p (suc n) x differs_all = ap (λ (b : Bool). cond b (x ∷ filter p (replicate n x)) (filter p (replicate n x)))
    differs_all ∙ none_same p n x differs_all

-- no item that another input gathered is one of the input, and none that was made
pub none_of_other : (input other n : ℕ) (group : Option ℕ) → other ≢ input
    → filter (is_of_input input) (replicate n (record { input = Some other; group = group })) ≡ []
none_of_other input other n group ne = none_same (is_of_input input) n (record { input = Some other; group = group })
    (differs other input ne)

pub none_of_made : (input n : ℕ) → filter (is_of_input input) (replicate n made) ≡ []
none_of_made input n = none_same (is_of_input input) n made refl

raw_origins-push : (setup : Setup) (es : List Entry) (e : Entry) → IsLegal setup es →
    drop (taken (es ++ e ∷ [])) (origins (es ++ e ∷ [])) ≡ drop (takes_by e)
    (drop (taken es) (origins es) ++ origins_by e)
raw_origins-push setup es e h =
    ap (drop (taken (es ++ e ∷ []))) (origins-push es e) ∙ ap (λ (n : ℕ). drop n (origins es ++ origins_by e))
    (taken-push es e ∙ omega arith) ∙ sym (drop-drop (takes_by e) (taken es) (origins es ++ origins_by e))
    ∙ ap (drop (takes_by e)) (drop-append-le (taken es) (origins es) (origins_by e)
    (omega (arith, few_taken setup es h, origins-match es)))

-- no item of an input is raw, and the entry names none of it
pub raw_of-push : (setup : Setup) (input : ℕ) (es : List Entry) (e : Entry) → IsLegal setup es → raw_of input es ≡ []
    → filter (is_of_input input) (origins_by e) ≡ [] → raw_of input (es ++ e ∷ []) ≡ []
raw_of-push setup input es e h none more =
    ap (filter (is_of_input input)) (raw_origins-push setup es e h)
    ∙ none_behind (is_of_input input) (takes_by e) (drop (taken es) (origins es) ++ origins_by e)
    (filter-append (is_of_input input) (drop (taken es) (origins es)) (origins_by e)
    ∙ ap (λ (front : List Origin). front ++ filter (is_of_input input) (origins_by e)) none ∙ more)

-- where no item at all is raw, none of an input is
pub raw_of-none : (input : ℕ) (es : List Entry) → raw_items es ≡ [] → raw_of input es ≡ []
raw_of-none input es none =
    ap (filter (is_of_input input))
    (nil_from_length (drop (taken es) (origins es)) (omega (
      arith,
      length-drop (taken es) (origins es),
      length-drop (taken es) (items es),
      ap (λ (ms : List Content). length ms) none,
      origins-match es,
    )))
