use Rattle.std.proofs.Common.{◌≡◌, ℕ, [], ◌∷◌, ◌++◌, arith, ap, sym, ◌∙◌, rules}
use Rattle.turnstile.specs.declared.history.View.{View}
use Rattle.turnstile.specs.declared.history.Phase.{Phase}
use Rattle.turnstile.specs.declared.history.Phase.TheVariants.{Idle, Drawn}
use Rattle.turnstile.specs.Numbers.{IsSplit, IsUnused}
use Rattle.turnstile.specs.View.{at_rest, split_view}
use Rattle.turnstile.proofs.CountLemmas.{last_of-snoc}
use Rattle.turnstile.proofs.PassSteps.{draws, splits}
use Rattle.turnstile.proofs.steps.split.Goals as goal

pub fetch_add-requires : goal.fetch_add-requires
fetch_add-requires g c = let h = c.requires.sized in (
  c.requires.same_table,
  omega arith,
  draws g.M.Machine.allows g.M.Machine.next g.M.Machine.dial_of _ _ _ _ _ c.requires.rests.0 c.requires.first
      c.requires.few,
)

pub split_seat-requires : goal.split_seat-requires
split_seat-requires g c =
    let h = c.requires.sized in
    let drew = c.fetch_add.ensures.2.1 in (
      search rules,
      omega arith,
      splits g.M.Machine.allows g.M.Machine.next g.M.Machine.dial_of _ _ _ _ (ap (λ v. v.phase) drew)
          (ap (λ v. v.number) drew ∙ c.requires.first),
    )

-- after the number n is drawn for w, and a and b are what is split of it, the first is as it was but for the number
split_views : {O A : Type 0} (v w a b : View O A) (n : ℕ) → IsUnused v n → v.phase ≡ Idle
    → w ≡ record v { split = v.split ++ n ∷ []; phase = Drawn } → a ≡ at_rest w → b ≡ split_view w → IsSplit v a b
split_views {O = O} {A = A} v w a b n unused idle drew kept made =
    let Kept : Phase → View O A = λ f. record v { split = v.split ++ n ∷ []; phase = f } in
    let Made : ℕ → Phase → View O A = λ m f.
    record v { number = m; mine = []; joined = []; split = []; phase = f } in (
      n,
      unused,
      kept ∙ (ap at_rest drew ∙ ap Kept (sym idle)),
      made ∙ (ap split_view drew ∙ (ap (λ m. Made m Idle) (last_of-snoc v.split n) ∙ ap (Made n) (sym idle))),
    )

pub returns-clause-split : goal.returns-clause-split
returns-clause-split g c =
    split_views c.args.seat.now.me.0 c.fetch_add.new.seat.me.0 _ _ c.fetch_add.result c.fetch_add.ensures.2.2
    c.requires.rests.0
    c.fetch_add.ensures.2.1 (ap (λ m. m.0) c.split_seat.ensures.2) (ap (λ m. m.0) c.split_seat.ensures.4)
