-- What an export hands back for an answer: its number and its values, each 0 beside a refusal (STORE 14.3), and where the slice lies.
use Rattle.std.specs.Prelude.{ℕ, get_or, pos}
use Rattle.paper.specs.Number.{Answer, number, values}
use Rattle.paper.specs.Time.{Difference, subframes, no_difference}
use Rattle.ffi.specs.declared.Taken.{Taken}
use Rattle.ffi.specs.declared.Shown.{Shown}
use Rattle.ffi.specs.declared.Told.{Told}
use Rattle.ffi.specs.declared.Moment.{Moment}
use Rattle.ffi.specs.declared.Mark.{Mark}
use Rattle.ffi.specs.declared.Span.{Span}

abbrev pub taken_of : Answer → Taken
taken_of a = record { number = number a; records = get_or (values a) 0 0 }

abbrev pub shown_of : Answer → ℕ → ℕ → Shown
shown_of a offset bytes = record { number = number a; offset = offset; bytes = bytes }

abbrev pub told_of : Answer → ℕ → ℕ → Told
told_of a offset bytes =
    record {
      number = number a;
      authbits = get_or (values a) 0 0;
      week = get_or (values a) 1 0;
      time = get_or (values a) 2 0;
      offset = offset;
      bytes = bytes;
    }

abbrev pub moment_of : Answer → Moment
moment_of a = record { number = number a; week = get_or (values a) 0 0; time = get_or (values a) 1 0 }

abbrev pub mark_of : Answer → Mark
mark_of a = record { number = number a; start = get_or (values a) 0 0 }

abbrev pub span_of : Difference → Span
span_of (subframes k) = record { number = 0; subframes = k }
span_of (no_difference n) = record { number = n; subframes = pos 0 }
