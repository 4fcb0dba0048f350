-- What lines have said, line by line.
use Rattle.std.proofs.Common.{◌≡◌, ◌+◌, ◌-◌, ◌^◌, ℕ, ℤ, Bool, true, false, List, [], ◌∷◌, ◌++◌, min, refl, sym, ap, ◌∙◌}
use Rattle.std.proofs.Common.{append_assoc, append-nil, arith}
use Rattle.metric.specs.declared.metric.Content.{Content}
use Rattle.metric.specs.Draft.{Tag}
use Rattle.openmetrics_text.specs.declared.collected.Collected.{Collected}
use Rattle.openmetrics_text.specs.declared.number.Number.{Number}
use Rattle.openmetrics_text.specs.declared.number.Number.TheVariants.{Decimal, NoDecimal, OutOfRange}
use Rattle.openmetrics_text.specs.Collecting.{HaveSaid}
use Rattle.openmetrics_text.specs.Lines.{LineSays, Typed, Nothing, Sampled}
use Rattle.openmetrics_text.specs.Reading.{content_of, contents_by, contents_of, exposition_of, metrics_from, passed_by}
use Rattle.openmetrics_text.specs.Reading.{counted_in, passed_in, out_by, out_in}
use Rattle.openmetrics_text.specs.Sample.{Said}
use Rattle.openmetrics_text.specs.Views.{said_view}
use Rattle.openmetrics_text.specs.TypeViews.{HaveTypes}
use Rattle.openmetrics_text.specs.Types.{types_in, type_of}

-- what a line says behind TYPE lines
abbrev pub says_metrics : ℤ → Bool → List Tag → LineSays → List Content
says_metrics moment typed types (Typed name kind) = []
says_metrics moment typed types Nothing = []
says_metrics moment typed types (Sampled said) = contents_of moment typed (type_of said.name types) said

abbrev pub says_counted : (Number → ℕ) → LineSays → ℕ
says_counted count (Typed name kind) = 0
says_counted count Nothing = 0
says_counted count (Sampled said) = count said.number

abbrev pub says_types : LineSays → List Tag
says_types (Typed name kind) = (name, kind) ∷ []
says_types Nothing = []
says_types (Sampled said) = []

pub types_in-push : (lines : List LineSays) (line : LineSays)
    → types_in (lines ++ line ∷ []) ≡ types_in lines ++ says_types line
unfolding types_in
types_in-push [] (Typed name kind) = refl
types_in-push [] Nothing = refl
types_in-push [] (Sampled said) = refl
types_in-push (Typed name kind ∷ lines) line = ap (λ (ts : List Tag). (name, kind) ∷ ts) (types_in-push lines line)
types_in-push (Nothing ∷ lines) line = types_in-push lines line
types_in-push (Sampled said ∷ lines) line = types_in-push lines line

pub counted_in-push : (count : Number → ℕ) (lines : List LineSays) (line : LineSays)
    → counted_in count (lines ++ line ∷ []) ≡ counted_in count lines + says_counted count line
unfolding counted_in
counted_in-push count [] (Typed name kind) = refl
counted_in-push count [] Nothing = refl
counted_in-push count [] (Sampled said) = omega arith
counted_in-push count (Typed name kind ∷ lines) line = counted_in-push count lines line
counted_in-push count (Nothing ∷ lines) line = counted_in-push count lines line
counted_in-push count (Sampled said ∷ lines) line =
    ap (λ (n : ℕ). count said.number + n) (counted_in-push count lines line) ∙ omega arith

pub metrics_from-push : (moment : ℤ) (typed : Bool) (types : List Tag) (lines : List LineSays) (line : LineSays)
    → metrics_from moment typed types (lines ++ line ∷ []) ≡ metrics_from moment typed types lines
    ++ says_metrics moment typed (types ++ types_in lines) line
unfolding metrics_from types_in
metrics_from-push moment typed types [] (Typed name kind) = refl
metrics_from-push moment typed types [] Nothing = refl
metrics_from-push moment typed types [] (Sampled said) = append-nil
    (contents_of moment typed (type_of said.name types) said)
    ∙ ap (λ (ts : List Tag). contents_of moment typed (type_of said.name ts) said) (sym (append-nil types))
metrics_from-push moment typed types (Typed name kind ∷ lines) line =
    metrics_from-push moment typed (types ++ (name, kind) ∷ []) lines line
    ∙ ap (λ (ts : List Tag). metrics_from moment typed (types ++ (name, kind) ∷ []) lines
    ++ says_metrics moment typed ts line) (append_assoc types ((name, kind) ∷ []) (types_in lines))
metrics_from-push moment typed types (Nothing ∷ lines) line = metrics_from-push moment typed types lines line
metrics_from-push moment typed types (Sampled said ∷ lines) line =
    ap (λ (ms : List Content). contents_of moment typed (type_of said.name types) said ++ ms)
    (metrics_from-push moment typed types lines line)
    ∙ sym (append_assoc (contents_of moment typed (type_of said.name types) said)
    (metrics_from moment typed types lines) (says_metrics moment typed (types ++ types_in lines) line))

-- what was asked for stays as it is
abbrev pub AskedAlike : Collected → Collected → Type 0
AskedAlike old new = (new.moment ≡ old.moment) × (new.typed ≡ old.typed)

-- one line more
pub said_more : (moment : ℤ) (typed : Bool) (old new : Collected) (lines : List LineSays) (line : LineSays)
    → HaveSaid moment typed old lines → AskedAlike old new
    → new.metrics.items ≡ old.metrics.items ++ says_metrics moment typed (types_in lines) line
    → new.passed ≡ min (old.passed + says_counted passed_by line) (2 ^ 32 - 1)
    → new.out_of_range ≡ min (old.out_of_range + says_counted out_by line) (2 ^ 32 - 1)
    → (typed ≡ true → HaveTypes new.types (types_in lines ++ says_types line))
    → HaveSaid moment typed new (lines ++ line ∷ [])
said_more moment typed old new lines line h asked metrics passed out types = record {
  at_moment = asked.0 ∙ h.at_moment;
  with_types = asked.1 ∙ h.with_types;
  metrics = metrics ∙ ap (λ (ms : List Content). ms ++ says_metrics moment typed (types_in lines) line) h.metrics
      ∙ sym (metrics_from-push moment typed [] lines line);
  passed = passed
      ∙ counts old.passed (passed_in lines) (passed_in (lines ++ line ∷ [])) (says_counted passed_by line)
      h.passed (counted_in-push passed_by lines line);
  out_of_range = out
      ∙ counts old.out_of_range (out_in lines) (out_in (lines ++ line ∷ [])) (says_counted out_by line)
      h.out_of_range (counted_in-push out_by lines line);
  types = λ e. rw (types_in-push lines line) (types e);
}
  where
    counts : (a n m k : ℕ) → a ≡ min n (2 ^ 32 - 1) → m ≡ n + k → min (a + k) (2 ^ 32 - 1) ≡ min m (2 ^ 32 - 1)
    counts a n m k e f = omega arith

-- a line that says nothing
pub said_nothing : (moment : ℤ) (typed : Bool) (old : Collected) (lines : List LineSays)
    → HaveSaid moment typed old lines → HaveSaid moment typed old (lines ++ Nothing ∷ [])
said_nothing moment typed old lines h = said_more moment typed old old lines Nothing h (refl, refl)
    (sym (append-nil old.metrics.items)) (still old.passed (passed_in lines) h.passed)
    (still old.out_of_range (out_in lines) h.out_of_range) (λ e. rw append-nil (h.types e))
  where
    still : (a n : ℕ) → a ≡ min n (2 ^ 32 - 1) → a ≡ min (a + 0) (2 ^ 32 - 1)
    still a n e = omega arith

-- a TYPE line
pub said_type : (moment : ℤ) (typed : Bool) (old new : Collected) (lines : List LineSays) (name kind : List ℕ)
    → HaveSaid moment typed old lines → AskedAlike old new
    → new.metrics.items ≡ old.metrics.items → new.passed ≡ old.passed → new.out_of_range ≡ old.out_of_range
    → (typed ≡ true → HaveTypes new.types (types_in lines ++ (name, kind) ∷ []))
    → HaveSaid moment typed new (lines ++ Typed name kind ∷ [])
said_type moment typed old new lines name kind h asked metrics passed out types =
    said_more moment typed old new lines (Typed name kind) h asked (metrics ∙ sym (append-nil old.metrics.items))
    (still new.passed old.passed (passed_in lines) passed h.passed)
    (still new.out_of_range old.out_of_range (out_in lines) out h.out_of_range) types
  where
    still : (b a n : ℕ) → b ≡ a → a ≡ min n (2 ^ 32 - 1) → b ≡ min (a + 0) (2 ^ 32 - 1)
    still b a n f e = omega arith

-- a sample
full : (a n k : ℕ) → a ≡ min n (2 ^ 32 - 1) → k ≡ 0 → a ≡ min (a + k) (2 ^ 32 - 1)
full a n k e z = omega arith

-- where no type is asked for, it doesn't count
kept_kind : (moment : ℤ) (typed : Bool) (kind other : List ℕ) (said : Said) (number : ℤ) → (typed ≡ true → kind ≡ other)
    → content_of moment typed kind said number ≡ content_of moment typed other said number
kept_kind moment true kind other said number h = ap (λ (k : List ℕ). content_of moment true k said number) (h refl)
kept_kind moment false kind other said number h = refl

pub said_metric : (moment : ℤ) (typed : Bool) (old new : Collected) (lines : List LineSays) (said : Said)
    (number : ℤ) (metric : Content) (kind : List ℕ) → HaveSaid moment typed old lines → AskedAlike old new
    → said.number ≡ Decimal number
    → (typed ≡ true → kind ≡ type_of said.name (types_in lines)) → metric ≡ content_of moment typed kind said number
    → new.metrics.items ≡ old.metrics.items ++ metric ∷ [] → new.passed ≡ old.passed
    → new.out_of_range ≡ old.out_of_range → (typed ≡ true → HaveTypes new.types (types_in lines))
    → HaveSaid moment typed new (lines ++ Sampled said ∷ [])
said_metric moment typed old new lines said number metric kind h asked value kind_is made metrics passed out types =
    let one : metric ∷ [] ≡ contents_of moment typed (type_of said.name (types_in lines)) said =
    ap (λ (m : Content). m ∷ [])
    (made ∙ kept_kind moment typed kind (type_of said.name (types_in lines)) said number kind_is)
    ∙ sym (ap (contents_by moment typed (type_of said.name (types_in lines)) said) value) in
    said_more moment typed old new lines (Sampled said) h asked
    (metrics ∙ ap (λ (ms : List Content). old.metrics.items ++ ms) one)
    (passed ∙ full old.passed (passed_in lines) (passed_by said.number) h.passed (ap passed_by value))
    (out ∙ full old.out_of_range (out_in lines) (out_by said.number) h.out_of_range (ap out_by value))
    (λ e. rw append-nil (types e))

pub said_passed : (moment : ℤ) (typed : Bool) (old new : Collected) (lines : List LineSays) (said : Said)
    → HaveSaid moment typed old lines → AskedAlike old new → said.number ≡ NoDecimal
    → new.metrics.items ≡ old.metrics.items → new.passed ≡ min (old.passed + 1) (2 ^ 32 - 1)
    → new.out_of_range ≡ old.out_of_range → (typed ≡ true → HaveTypes new.types (types_in lines))
    → HaveSaid moment typed new (lines ++ Sampled said ∷ [])
said_passed moment typed old new lines said h asked number metrics passed out types =
    let none : [] ≡ contents_of moment typed (type_of said.name (types_in lines)) said = sym
    (ap (contents_by moment typed (type_of said.name (types_in lines)) said) number) in
    let one : 1 ≡ passed_by said.number = sym (ap passed_by number) in
    said_more moment typed old new lines (Sampled said) h asked
    (metrics ∙ sym (append-nil old.metrics.items) ∙ ap (λ (ms : List Content). old.metrics.items ++ ms) none)
    (passed ∙ ap (λ (n : ℕ). min (old.passed + n) (2 ^ 32 - 1)) one)
    (out ∙ full old.out_of_range (out_in lines) (out_by said.number) h.out_of_range (ap out_by number))
    (λ e. rw append-nil (types e))

pub said_out : (moment : ℤ) (typed : Bool) (old new : Collected) (lines : List LineSays) (said : Said)
    → HaveSaid moment typed old lines → AskedAlike old new → said.number ≡ OutOfRange
    → new.metrics.items ≡ old.metrics.items → new.passed ≡ min (old.passed + 1) (2 ^ 32 - 1)
    → new.out_of_range ≡ min (old.out_of_range + 1) (2 ^ 32 - 1) → (typed ≡ true → HaveTypes new.types (types_in lines))
    → HaveSaid moment typed new (lines ++ Sampled said ∷ [])
said_out moment typed old new lines said h asked number metrics passed out types =
    let none : [] ≡ contents_of moment typed (type_of said.name (types_in lines)) said = sym
    (ap (contents_by moment typed (type_of said.name (types_in lines)) said) number) in
    let one : 1 ≡ passed_by said.number = sym (ap passed_by number) in
    let one_out : 1 ≡ out_by said.number = sym (ap out_by number) in
    said_more moment typed old new lines (Sampled said) h asked
    (metrics ∙ sym (append-nil old.metrics.items) ∙ ap (λ (ms : List Content). old.metrics.items ++ ms) none)
    (passed ∙ ap (λ (n : ℕ). min (old.passed + n) (2 ^ 32 - 1)) one)
    (out ∙ ap (λ (n : ℕ). min (old.out_of_range + n) (2 ^ 32 - 1)) one_out) (λ e. rw append-nil (types e))

-- all lines
pub said_is : (moment : ℤ) (typed : Bool) (collected : Collected) (lines : List LineSays)
    → HaveSaid moment typed collected lines → exposition_of moment typed lines ≡ said_view collected
said_is moment typed collected lines h = rw (h.metrics, h.passed, h.out_of_range) refl
