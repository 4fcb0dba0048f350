-- The moments that entries name, with one entry more.
use Rattle.std.proofs.Common.{◌≡◌, ℕ, ℤ, List, [], ◌∷◌, ◌++◌, refl, ap, ◌∙◌, append-nil}
use Rattle.std.specs.Prelude.{map}
use Rattle.account.specs.declared.entry.Entry.{Entry}
use Rattle.account.specs.EntryMoments.{gather_moments, counted_by, counted_moments}
use Rattle.account.specs.Says.{GatherSays}
use Rattle.account.specs.Gathers.{gathers, gathers_by}
use Rattle.account.proofs.GatherLemmas.{gathers-push}
use Rattle.account.proofs.PushLemmas.{push, same}

pub counted_moments-push : (es : List Entry) (e : Entry) → counted_moments (es ++ e ∷ []) ≡ counted_moments es
    ++ counted_by e
unfolding counted_moments
counted_moments-push es e = push counted_by counted_moments refl (λ d ds. refl) es e

pub counted_moments-same : (es : List Entry) (e : Entry) → counted_by e ≡ []
    → counted_moments (es ++ e ∷ []) ≡ counted_moments es
unfolding counted_moments
counted_moments-same es e none = same counted_by counted_moments refl (λ d ds. refl) es e none

map-append : (xs ys : List GatherSays) → map (λ (says : GatherSays). says.moment) (xs ++ ys) ≡ map
    (λ (says : GatherSays). says.moment) xs ++ map (λ (says : GatherSays). says.moment) ys
map-append [] ys = refl
map-append (x ∷ xs) ys = ap (λ (ms : List ℤ). x.moment ∷ ms) (map-append xs ys)

pub gather_moments-push : (input : ℕ) (es : List Entry) (e : Entry)
    → gather_moments input (es ++ e ∷ []) ≡ gather_moments input es
    ++ map (λ (says : GatherSays). says.moment) (gathers_by input e)
gather_moments-push input es e = ap (λ (all : List GatherSays). map (λ (says : GatherSays). says.moment) all)
    (gathers-push input es e) ∙ map-append (gathers input es) (gathers_by input e)

pub gather_moments-same : (input : ℕ) (es : List Entry) (e : Entry) → gathers_by input e ≡ []
    → gather_moments input (es ++ e ∷ []) ≡ gather_moments input es
gather_moments-same input es e none =
    gather_moments-push input es e ∙ ap (λ (all : List GatherSays). gather_moments input es
    ++ map (λ (says : GatherSays). says.moment) all) none ∙ append-nil (gather_moments input es)

-- nothing was counted
pub counted_none : counted_moments [] ≡ []
unfolding counted_moments
counted_none = refl

pub gather_moments_none : (input : ℕ) → gather_moments input [] ≡ []
unfolding gathers
gather_moments_none input = refl
