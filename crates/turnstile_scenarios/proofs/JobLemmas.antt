-- Lists of jobs, by the numbers of their passes.
use Rattle.std.proofs.Common.{◌≡◌, ℕ, ◌<◌, List, [], ◌∷◌, ◌++◌, All, map, length, get_or, Bool, if◌then◌else◌}
use Rattle.std.proofs.Common.{zero, suc}
use Rattle.std.proofs.Common.{sym, refl, ap, ◌∙◌, subst, arith, eq-eqb}
use Rattle.turnstile.specs.View.{without}

-- a number that stands first is taken out
without_first : (n : ℕ) (ns : List ℕ) → without n (n ∷ ns) ≡ ns
without_first n ns = ap (λ (b : Bool). if b then ns else (n ∷ without n ns)) (eq-eqb n n refl)

module _ {J : Type 0} (number : J → ℕ) where
  -- after the first job's pass is joined back, those of the others are left
  pub joined_first : (js ks : List J) (j : J) (split split' : List ℕ) → js ≡ j ∷ ks → map number js ≡ split
      → split' ≡ without (number j) split → map number ks ≡ split'
  joined_first js ks j split split' cut all out =
      sym (out ∙ (ap (without (number j)) (sym all ∙ ap (λ (l : List J). map number l) cut)
      ∙ without_first (number j) (map number ks)))

  -- one job more
  pub split_more : (js ks : List J) (j : J) (split split' : List ℕ) → ks ≡ js ++ j ∷ [] → map number js ≡ split
      → split' ≡ split ++ number j ∷ [] → map number ks ≡ split'
  split_more js ks j split split' more all out =
      ap (λ (l : List J). map number l) more ∙ (map-snoc js ∙ (ap (λ (l : List ℕ). l ++ number j ∷ []) all ∙ sym out))
    where
      map-snoc : (l : List J) → map number (l ++ j ∷ []) ≡ map number l ++ number j ∷ []
      map-snoc [] = refl
      map-snoc (x ∷ xs) = ap (λ (ns : List ℕ). number x ∷ ns) (map-snoc xs)

  -- as many jobs, each with the number of the one at its index
  pub same_numbers : (js ks : List J) → length ks ≡ length js
      → ((k : ℕ) (d : J) → k < length js → number (get_or ks k d) ≡ number (get_or js k d))
      → map number ks ≡ map number js
  same_numbers [] [] e h = refl
  same_numbers [] (k ∷ ks) e h = absurd (omega arith)
  same_numbers (j ∷ js) [] e h = absurd (omega arith)
  same_numbers (j ∷ js) (k ∷ ks) e h =
      let first : number k ≡ number j = h 0 k (omega arith) in
      let others = same_numbers js ks (omega arith) (λ i d lt. h (suc i) d (omega arith)) in
      ap (λ (t : ℕ × List ℕ). t.0 ∷ t.1) (λ i. (first i, others i))

module _ {J : Type 0} (P : J → Type 0) where
  -- what holds of all holds of all but the first
  pub all_rest : (js ks : List J) (j : J) → js ≡ j ∷ ks → All P js → All P ks
  all_rest js ks j cut all k d lt = subst (λ (l : List J). All P l) cut all (suc k) d (omega arith)

  -- and of one more
  pub all_more : (js ks : List J) (j : J) → ks ≡ js ++ j ∷ [] → All P js → P j → All P ks
  all_more js ks j more all last = subst (λ (l : List J). All P l) (sym more) (ended js all)
    where
      ended : (l : List J) → All P l → All P (l ++ j ∷ [])
      ended [] h zero d lt = last
      ended [] h (suc k) d lt = absurd (omega arith)
      ended (x ∷ xs) h zero d lt = h 0 d (omega arith)
      ended (x ∷ xs) h (suc k) d lt = ended xs (λ i e below. h (suc i) e (omega arith)) k d (omega arith)
