-- The items of a journal with one entry more.
use Rattle.std.proofs.Common.{◌≡◌, List, [], ◌∷◌, ◌++◌, refl}
use Rattle.account.specs.declared.entry.Entry.{Entry}
use Rattle.account.specs.Items.{items, named_by}
use Rattle.account.proofs.PushLemmas.{push}

pub items-push : (es : List Entry) (e : Entry) → items (es ++ e ∷ []) ≡ items es ++ named_by e
unfolding items
items-push es e = push named_by items refl (λ d ds. refl) es e
