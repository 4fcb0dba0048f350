-- The sections of a line: its head, its parts, and the tags behind `|#`.
use Rattle.std.specs.Prelude.{ℕ, ◌+◌, ◌==◌, ◌&&◌, Bool, false, List, [], ◌∷◌, length, take, drop, Option}
use Rattle.std.specs.Prelude.{Some, None, Result}
use Rattle.std.specs.Prelude.{Ok, Err, if◌then◌else◌}
use Rattle.text_parts.specs.Bytes.{hash, colon, bar}
use Rattle.text_parts.specs.Split.{PartAt, first_part}
use Rattle.statsd_text.specs.declared.fault.StatsdFault.{StatsdFault}
use Rattle.statsd_text.specs.declared.fault.StatsdKind.{StatsdKind}
use Rattle.statsd_text.specs.declared.fault.StatsdKind.TheVariants.{NoColon}

-- a fault at an offset
abbrev pub fault : {A : Type 0} → StatsdKind → ℕ → Result A StatsdFault
fault kind offset = Err (record { kind = kind; offset = offset })

-- the bytes begin with `|#`
abbrev pub is_marker : List ℕ → Bool
is_marker [] = false
is_marker (b ∷ []) = false
is_marker (b ∷ c ∷ bs) = b == bar && c == hash

-- how many bytes stand before the first `|#`; all of them where there is none
unfoldable pub marker_len : List ℕ → ℕ
marker_len [] = 0
marker_len (b ∷ []) = 1
marker_len (b ∷ c ∷ bs) = if b == bar && c == hash then 0 else 1 + marker_len (c ∷ bs)

-- what stands before the first `|#`, and what stands behind it, where there is one
abbrev pub before_marker : List ℕ → List ℕ
before_marker text = take (marker_len text) text

abbrev pub behind_marker : List ℕ → List ℕ
behind_marker text = drop (marker_len text + 2) text

-- the head, which begins the piece; the parts; and the tags behind `|#`, which are empty where there is none
pub record Sections : Type 0 where
  pub head : List ℕ
  pub parts : PartAt
  pub tags : PartAt

-- the sections, given what stands behind the head's colon
abbrev pub sections_of : ℕ → List ℕ → Option (List ℕ) → Result Sections StatsdFault
sections_of end head None = fault NoColon end
sections_of end head (Some rest) = Ok (record {
  head = head;
  parts = (length head + 1, before_marker rest);
  tags = (length head + 1 + marker_len rest + 2, behind_marker rest);
})

-- the head ends before the first colon, the parts before the first `|#` behind it
unfoldable pub sections : List ℕ → Result Sections StatsdFault
sections piece = sections_of (length piece) (first_part colon piece).0 (first_part colon piece).1
