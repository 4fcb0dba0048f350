use Rattle.std.proofs.Common.{◌∙◌, refl, subst, sym}
use Rattle.statsd_server.specs.Server.{StandsFor}
use Rattle.statsd_server.specs.ServerView.{server_memory}
use Rattle.statsd_server.proofs.ServerLemmas.{gathered, served_is}
use Rattle.statsd_server.proofs.server.Server.gather.Goals as goal

pub returns-clause-served : goal.returns-clause-served
returns-clause-served c = λ earlier hand stands.
    c.in_ok-metrics.ensures ∙ served_is earlier hand (server_memory c.self.inside)
    (subst (StandsFor earlier hand) (sym c.self.view_is) stands)

pub returns-clause-ok : goal.returns-clause-ok
returns-clause-ok c = λ earlier hand stands.
    gathered earlier hand (server_memory c.self.inside) _
    (subst (StandsFor earlier hand) (sym c.self.view_is) stands) refl c.clear.ensures.keeps c.clear.ensures.counted
    c.clear.ensures.refused
