-- What the entries of a journal give one after the other, with one entry more.
use Rattle.std.proofs.Common.{◌≡◌, List, [], ◌∷◌, ◌++◌, sym, ap, ◌∙◌, append_assoc, append-nil}
use Rattle.account.specs.declared.entry.Entry.{Entry}

module _ {X : Type 0} (given : Entry → List X) (all : List Entry → List X) (none : all [] ≡ [])
    (more : (e : Entry) (es : List Entry) → all (e ∷ es) ≡ given e ++ all es) where
  pub push : (es : List Entry) (e : Entry) → all (es ++ e ∷ []) ≡ all es ++ given e
  push [] e = more e [] ∙ ap (λ (xs : List X). given e ++ xs) none ∙ append-nil (given e)
      ∙ sym (ap (λ (xs : List X). xs ++ given e) none)
  push (d ∷ es) e =
      more d (es ++ e ∷ []) ∙ ap (λ (xs : List X). given d ++ xs) (push es e)
      ∙ sym (append_assoc (given d) (all es) (given e))
      ∙ sym (ap (λ (xs : List X). xs ++ given e) (more d es))

  -- an entry that gives nothing
  pub same : (es : List Entry) (e : Entry) → given e ≡ [] → all (es ++ e ∷ []) ≡ all es
  same es e nothing = push es e ∙ ap (λ (xs : List X). all es ++ xs) nothing ∙ append-nil (all es)
