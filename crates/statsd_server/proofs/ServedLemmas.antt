-- The metrics of series.
use Rattle.std.proofs.Common.{◌≡◌, ap, ℤ, pos, refl, Result, subst, sym, ◌∙◌, ⊎_elim, ◌⊎◌, List}
use Rattle.std.specs.Prelude.{IfOk}
use Rattle.fixed_num.specs.declared.memory.OutOfMemory.{OutOfMemory}
use Rattle.metric.specs.Building.{Parts}
use Rattle.metric.specs.Draft.{Field}
use Rattle.metric.specs.Pairs.{with_values}
use Rattle.metric.specs.Series.{Series}
use Rattle.metric.specs.declared.metric.Content.{Content}
use Rattle.statsd_text.proofs.KeptTags.{valued_stay}
use Rattle.statsd_server.specs.declared.kind.Kind.{Kind}
use Rattle.statsd_server.specs.declared.kind.Kind.TheVariants.{Counter, Timing, Set}
use Rattle.statsd_server.specs.declared.summary.Summary.{Summary}
use Rattle.statsd_server.specs.Marked.{IsSound}
use Rattle.statsd_server.specs.Parts.{kind_of}
use Rattle.statsd_server.specs.Served.{fields_of, metric_with}

-- what is made of a builder that has the name, the tags and the fields of a series
pub completed : (b : Parts) (series : Series) (kind : Kind) (s : Summary) (level : ℤ) → IsSound series
    → kind ≡ kind_of series.1
    → b ≡ record { name = series.0; tags = series.1; fields = fields_of kind s level }
    → record { name = b.name; tags = with_values b.tags; fields = b.fields; time = pos 0 } ≡ metric_with series s level
unfolding metric_with
completed b series kind s level sound kind_is is =
    rw (is, kind_is) (λ i. record {
      name = series.0;
      tags = valued_stay series.1 sound.valued i;
      fields = fields_of (kind_of series.1) s level;
      time = pos 0;
    })

pub same_ok : (r : Result Content OutOfMemory) (a b : Content) → IfOk r (λ m. m ≡ a) → a ≡ b → IfOk r (λ m. m ≡ b)
same_ok r a b h e = subst (λ (x : Content). IfOk r (λ m. m ≡ x)) e h

-- what is no gauge gives no level
no_gauge : (kind : Kind) → (kind ≡ Counter) ⊎ ((kind ≡ Timing) ⊎ (kind ≡ Set)) → (s : Summary) (a b : ℤ)
    → fields_of kind s a ≡ fields_of kind s b
no_gauge kind h s a b =
    ⊎_elim (λ e. rw e refl) (λ other. ⊎_elim (λ e. rw e refl) (λ e. rw e refl) other) h

abbrev content_with : Series → List Field → Content
content_with series fields = record {
  name = series.0;
  tags = series.1;
  fields = fields;
  time = pos 0;
}

pub level_left : (series : Series) (kind : Kind) → kind ≡ kind_of series.1
    → (kind ≡ Counter) ⊎ ((kind ≡ Timing) ⊎ (kind ≡ Set)) → (s : Summary) (a b : ℤ)
    → metric_with series s a ≡ metric_with series s b
unfolding metric_with
level_left series kind is h s a b =
    ap (content_with series)
    (ap (λ (k : Kind). fields_of k s a) (sym is) ∙ no_gauge kind h s a b ∙ ap (λ (k : Kind). fields_of k s b) is)
