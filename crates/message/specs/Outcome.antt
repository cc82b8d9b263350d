-- STORE 14.5, for the calls on messages: the number of a form, the head that a heading is, and the answer for each outcome.
use Rattle.std.specs.Prelude.{ℕ, Bool, ◌&&◌, not, List, [], ◌∷◌, leb, eqb, length, Result}
use Rattle.paper.specs.Number.{Answer, unless}
use Rattle.paper.specs.Time.{is_time, is_start}
use Rattle.paper.specs.Record.{data_bytes}
use Rattle.paper.specs.Message.{Head, form_known, form_family, message_bytes, satellites_read, head_values}
use Rattle.refusals.specs.Reply.{answer_of}
use Rattle.refusals.specs.declared.Refusal.{Refusal}
use Rattle.message.specs.declared.Form.{Form}
use Rattle.message.specs.declared.Form.TheVariants.{Ced, Tag0, Timing}
use Rattle.message.specs.declared.Heading.{Heading}

-- STORE 21.1
abbrev pub form_code : Form → ℕ
form_code Ced = 0
form_code Tag0 = 1
form_code Timing = 2

abbrev pub form_answer : Result Form Refusal → Answer
form_answer = answer_of (λ form. form_code form ∷ [])

abbrev pub head_of : Heading → Head
head_of h =
    record {
      prnd = h.prnd.0;
      prna = h.prna.0;
      week = h.gst.wn.0;
      time = h.gst.tow.0;
      counter = h.counter;
      status = h.status;
    }

-- beside 0 how many bytes the message has
abbrev pub built_answer : Result ℕ Refusal → Answer
built_answer = answer_of (λ bytes. bytes ∷ [])

-- beside 0 the fields
abbrev pub read_back_answer : Result Heading Refusal → Answer
read_back_answer = answer_of (λ h. head_values (head_of h))

-- the message is as long as its form's, and the data fits the buffer
abbrev pub well_long : ℕ → List ℕ → List ℕ → Bool
well_long form m buffer = eqb (length m) (message_bytes form) && leb (data_bytes (form_family form)) (length buffer)

-- reading back: 9, 8, before anything of the message is looked at
unfoldable pub lengths_number : ℕ → List ℕ → List ℕ → ℕ
lengths_number form m buffer = unless (form_known form) 9 (unless (well_long form m buffer) 8 0)

-- reading back: 4, 5, 6, 8, of the fields
unfoldable pub fields_number : ℕ → Head → ℕ
fields_number form h =
    unless (satellites_read form h) 4 (unless (is_time h.time) 5 (unless (is_start h.time) 6 (unless (not (eqb h.counter 0)) 8 0)))
