-- The Gathers of an input, with one entry more.
use Rattle.std.proofs.Common.{◌≡◌, ℕ, List, [], ◌∷◌, ◌++◌, refl}
use Rattle.account.specs.declared.entry.Entry.{Entry}
use Rattle.account.specs.Gathers.{gathers_by, gathers}
use Rattle.account.proofs.PushLemmas.{push, same}

pub gathers-push : (input : ℕ) (es : List Entry) (e : Entry)
    → gathers input (es ++ e ∷ []) ≡ gathers input es ++ gathers_by input e
unfolding gathers
gathers-push input es e = push (gathers_by input) (gathers input) refl (λ d ds. refl) es e

-- an entry that is no Gather of the input
pub gathers-other : (input : ℕ) (es : List Entry) (e : Entry) → gathers_by input e ≡ []
    → gathers input (es ++ e ∷ []) ≡ gathers input es
unfolding gathers
gathers-other input es e none = same (gathers_by input) (gathers input) refl (λ d ds. refl) es e none
