use Rattle.std.proofs.Common.{◌≡◌, ◌++◌, take}
use Rattle.journal_text.specs.Known.{views_as}
use Rattle.journal_text.proofs.route.append_views.Given as goal

abbrev pub invariant-loop-view : goal.invariant-loop-view
invariant-loop-view l = l.out.items ≡ l.initial.out.items ++ views_as l.same l.whole (take l.view-index l.views)
