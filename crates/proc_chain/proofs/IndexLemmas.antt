-- A list in which the element at an index is set, and what changes behind it then.
use Rattle.std.proofs.Common.{◌≡◌, ◌<◌, ◌+◌, ◌++◌, ℕ, List, [], ◌∷◌, length, take, drop, get_or, set}
use Rattle.std.proofs.Common.{sym, ap, ap₂, ◌∙◌, append_assoc, length-append, arith}
use Rattle.std.specs.Prelude.{map}
use Rattle.std.proofs.lemmas.List.{drop_at, drop_more, drop-set-lt, get_or_at, get_or-set_same, length-set}
use Rattle.std.proofs.lemmas.List.{length-take-le, map-set, set-get_or, take-append-drop, take_at, take_more_set}

module _ {X : Type 0} (old : List X) (at : ℕ) (s : X) (lt : at < length old) (is : s ≡ get_or old at s) where
  pub here : drop at old ≡ s ∷ drop (at + 1) old
  here = drop_more old at s lt ∙ ap (λ (x : X). x ∷ drop (at + 1) old) (sym is)

  module _ (t : X) where
    pub set_behind : drop (at + 1) (set old at t) ≡ drop (at + 1) old
    set_behind = drop-set-lt (at + 1) old at t (omega arith)

    pub set_here : drop at (set old at t) ≡ t ∷ drop (at + 1) old
    set_here =
        let within : at < length (set old at t) = simp length-set lt in
        drop_more (set old at t) at t within
        ∙ ap₂ (λ (x : X) xs. x ∷ xs) (get_or-set_same old at t t lt) set_behind

    pub set_map : {Y : Type 0} (f : X → Y) → f t ≡ f s → map f (set old at t) ≡ map f old
    set_map f same =
        map-set f old at t ∙ ap (set (map f old) at) same ∙ sym (map-set f old at s)
        ∙ ap (map f) (ap (set old at) is ∙ set-get_or old at s)

    -- a list whose front, with the element, is that with the element set
    module _ (new : List X) (front : take (at + 1) new ≡ take (at + 1) (set old at t)) where
      so_long : length (take at old) ≡ at
      so_long = length-take-le at old (omega arith)

      parted : new ≡ take at old ++ t ∷ drop (at + 1) new
      parted =
          sym (take-append-drop (at + 1) new)
          ∙ ap (λ f. f ++ drop (at + 1) new) (front ∙ take_more_set old at t lt)
          ∙ append_assoc (take at old) (t ∷ []) (drop (at + 1) new)

      pub new_here : drop at new ≡ t ∷ drop (at + 1) new
      new_here = ap (drop at) parted ∙ drop_at (take at old) (t ∷ drop (at + 1) new) at so_long

      pub new_front : take at new ≡ take at old
      new_front = ap (take at) parted ∙ take_at (take at old) (t ∷ drop (at + 1) new) at so_long

      pub new_at : (d : X) → get_or new at d ≡ t
      new_at d = ap (λ l. get_or l at d) parted ∙ get_or_at (take at old) t (drop (at + 1) new) d at so_long

      pub new_within : at < length new
      new_within =
          omega (arith, ap length parted, length-append (take at old) (t ∷ drop (at + 1) new), so_long)
