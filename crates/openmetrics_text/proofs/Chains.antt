-- The lines of an exposition.
use Rattle.std.proofs.Common.{◌≡◌, ℕ, ℤ, Bool, List, [], ◌∷◌, Ok, Option, Some, refl, subst}
use Rattle.text_parts.specs.declared.error.ReadError.{ReadError}
use Rattle.text_parts.specs.declared.error.ReadError.TheVariants as errors
use Rattle.text_parts.specs.Chain.{Fails}
use Rattle.text_parts.specs.Split.{PartAt, parts_of, each}
use Rattle.text_parts.proofs.Each.{HasRead, failed_read, all_read}
use Rattle.openmetrics_text.specs.declared.fault.ExpositionFault.{ExpositionFault}
use Rattle.openmetrics_text.specs.Lines.{LineSays}
use Rattle.openmetrics_text.specs.Reading.{line_at, lines_of, exposition_of, lines_reading}

pub lines_fail : (e : ReadError ExpositionFault) (moment : ℤ) (typed passing : Bool) (text : Option (List ℕ))
    → Fails e (each (line_at passing) (lines_of text)) → Fails e (lines_reading moment typed passing text)
unfolding lines_reading
lines_fail errors.OutOfMemory moment typed passing text h = tt
lines_fail (errors.Fault f) moment typed passing text h = rw h refl

pub lines_are : (moment : ℤ) (typed passing : Bool) (text : Option (List ℕ)) (lines : List LineSays)
    → each (line_at passing) (lines_of text) ≡ Ok lines → lines_reading moment typed passing text ≡ Ok
    (exposition_of moment typed lines)
unfolding lines_reading
lines_are moment typed passing text lines h = rw h refl

pub none_read : (passing : Bool) → each (line_at passing) [] ≡ Ok []
unfolding each
none_read passing = refl

-- the lines of a text that stands before the last line
module _ (moment : ℤ) (typed passing : Bool) (given : Option (List ℕ)) (text : List ℕ) (all : List PartAt)
    (is : given ≡ Some text) (split : all ≡ parts_of 10 (0, text)) where
  pub next_fails : (left rest : List PartAt) (says : List LineSays) (part : PartAt) (e : ReadError ExpositionFault)
      → HasRead (line_at passing) all says left → left ≡ part ∷ rest → Fails e (line_at passing part)
      → Fails e (lines_reading moment typed passing given)
  next_fails left rest says part e h next fails =
      rw is (lines_fail e moment typed passing (Some text) (subst
      (λ (parts : List PartAt). Fails e (each (line_at passing) parts)) split
      (failed_read (line_at passing) all left says part rest e h next fails)))

  pub all_said : (left : List PartAt) (says : List LineSays) → HasRead (line_at passing) all says left → left ≡ []
      → lines_reading moment typed passing given ≡ Ok (exposition_of moment typed says)
  all_said left says h none = rw is (lines_are moment typed passing (Some text) says
      (subst (λ (parts : List PartAt). each (line_at passing) parts ≡ Ok says) split
      (all_read (line_at passing) all left says h none)))
