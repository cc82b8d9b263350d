-- What an export is given as a head, and what it hands back for an answer: each value is 0 beside a refusal (STORE 14.3).
use Rattle.std.specs.Prelude.{ℕ, get_or}
use Rattle.paper.specs.Number.{Answer, number, values}
use Rattle.paper.specs.Message.{Head}
use Rattle.ffi_message.specs.declared.MessageBuilt.{MessageBuilt}
use Rattle.ffi_message.specs.declared.MessageRead.{MessageRead}

abbrev pub head_given : ℕ → ℕ → ℕ → ℕ → ℕ → ℕ → Head
head_given prnd prna w t counter status =
    record { prnd = prnd; prna = prna; week = w; time = t; counter = counter; status = status }

abbrev pub built_handed : Answer → MessageBuilt
built_handed a = record { number = number a; bytes = get_or (values a) 0 0 }

abbrev pub read_handed : Answer → MessageRead
read_handed a =
    record {
      number = number a;
      prnd = get_or (values a) 0 0;
      prna = get_or (values a) 1 0;
      status = get_or (values a) 5 0;
      week = get_or (values a) 2 0;
      time = get_or (values a) 3 0;
      counter = get_or (values a) 4 0;
    }

-- the fields that were handed back, as a head
abbrev pub head_read : MessageRead → Head
head_read r = head_given r.prnd r.prna r.week r.time r.counter r.status
