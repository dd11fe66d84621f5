-- A run of bailhammer_receive is one of `receive`: each call reads back the record that the last one left. Assumes nothing.
use mathlib.Core.Path.{◌≡◌, refl, sym, ap, ap₂, ◌∙◌, subst}
use mathlib.Core.List.{List, [], ◌∷◌, map}
use Prim.Native.Nat.{ℕ, ◌≤◌}
use native.Mathlib.Omega.{arith}
use borrow.Author.Tests.{eq-eqb, le-ltb}
use lib.ListN.{length, replicate}
use Rattle.std.specs.Prelude.{Option, Result, Ok}
use Rattle.base_rules.specs.Refusal.{told}
use Rattle.base_rules.specs.declared.Refusal.{Refusal}
use Rattle.base_rules.specs.Answer.{granted}
use Rattle.base_rules.specs.Bounds.{most_l}
use Rattle.base_rules.specs.Bytes.{Bytes}
use Rattle.base_rules.specs.Written.{number_of}
use Rattle.cut_rules.specs.declared.Address.{Address}
use Rattle.packed_rules.specs.Claims.{TypedTable}
use Rattle.packed_rules.specs.Packed.{table-bytes, packed_of, table_from, unpack_fault, unpack_call}
use Rattle.packed_rules.proofs.Proved.{unpacks}
use Rattle.places_rules.specs.declared.Table.{Table}
use Rattle.places_rules.specs.Places.{fresh_table, all_places}
use Rattle.receiver_rules.specs.Promise as promise
use Rattle.receiver_rules.specs.Promise.{Reception, reception, Step}
use Rattle.receiver_rules.specs.declared.Received.{Received}
use Rattle.receiver_rules.proofs.Proved.{some_reception}
use Rattle.card_rules.specs.Calls.{address_of}
use Rattle.card_rules.specs.Told.{told_length}
use Rattle.card_rules.specs.Receiving.{on_record, receipt_widths, told_after, Held, ReceivedWith, CardReceived}
use Rattle.card_rules.proofs.Proved.{zeros_fresh}
use Rattle.card_rules.proofs.ReceiveLaws.{good_record}
use Rattle.card_rules.proofs.ReceiveProved.{fresh_typed, with_record}
use Rattle.link.specs.Run as link
use Rattle.link.proofs.View.{Good}
use Rattle.link.proofs.Frame.{good_after, good_fresh}
use Rattle.shipped.specs.Runs.{Buffers, Call, after, Made, Run, start, next, fresh_with, Reached, receipt_bytes, answer_from, state_of, call_of}
use Rattle.shipped.specs.Runs.{IsRun, GoesOn, ReachedState, SomeCall}
use Rattle.shipped.proofs.Read.{Fits, answer_back}
use Rattle.shipped.proofs.Steps.{Answers, step_answers, step_fits}
use Rattle.shipped.proofs.Typed.{step_typed}

-- ---- buffers that calls have left

-- the record in them is read, and its state is one that a call of a run goes on from
pub record Stands (s : Buffers) : Type 0 where
  pub read : unpack_fault s.table ≡ 0
  pub good : Good (state_of s)
  pub typed : TypedTable (state_of s).table

-- bytes that are unpacked as a record have no fault, and are that record's
taken : (bytes : List ℕ) (t : Table) → unpack_call bytes ≡ (granted [], t) → (unpack_fault bytes ≡ 0) × (t ≡ table_from bytes)
unfolding number_of told
taken bytes t e = good_record bytes (Ok tt) t (sym e) refl

fresh_stands : (lent : List ℕ) → length lent ≡ all_places → Stands (fresh_with lent)
fresh_stands lent all =
    let zeros = taken (replicate table-bytes 0) fresh_table zeros_fresh in
    record {
      read = zeros.0;
      good = subst (λ (t : Table). Good (record { table = t; bytes = lent })) zeros.1 (good_fresh lent all);
      typed = subst TypedTable zeros.1 fresh_typed;
    }

-- ---- a call

-- 8 bytes are room for what it tells
room_told : (told : List ℕ) → receipt_bytes ≤ length told → told_length receipt_widths ≤ length told
unfolding told_length
room_told told room = omega arith

-- the answer that it gave, which its number and the bytes told are, and which is read off them
pub record Gave (e : Call) : Type 0 where
  pub answer : Result Received Refusal
  pub whole : Fits answer
  pub number : e.given ≡ (promise.number_of answer).0
  pub told : e.left.told ≡ told_after answer e.told
  pub read : (call_of e).left.answer ≡ promise.number_of answer

module _ (s : Buffers) (e : Call) (stands : Stands s) (m : Made s e) where
  abbrev before : Held
  before = record { record_bytes = s.table; lent = s.lent; told = e.told; out = e.out }

  with : ReceivedWith (address_of e.addressed e.source e.dest) e.datagram before e.left e.given (table_from s.table)
  with =
      with_record (address_of e.addressed e.source e.dest) e.datagram before e.left e.given m.meets stands.read
      (room_told e.told m.told_room)

  abbrev left : Reception
  left = reception with.answer with.table e.left.lent e.left.out

  fits : Fits with.answer
  unfolding reception
  fits = step_fits (call_of e).own (state_of s) e.datagram e.out left stands.good stands.typed m.room with.step with.answer refl

  answer_read : (call_of e).left.answer ≡ promise.number_of with.answer
  answer_read = ap₂ answer_from with.number with.told ∙ answer_back with.answer e.told fits

  -- what the caller reads of the call is what it left
  read_left : left ≡ (call_of e).left
  unfolding reception
  read_left =
      ap₂ (λ (a : ℕ × List ℕ) (t : Table). record { answer = a; table = t; bytes = e.left.lent; out = e.left.out })
      (sym answer_read) (taken e.left.record_bytes with.table with.read_back).1

  made : link.Made (state_of s) (call_of e)
  made = record {
    room = m.room;
    bytes = m.bytes;
    meets = subst (Step (call_of e).own (state_of s) e.datagram e.out) read_left with.step;
  }

  call_gave : Gave e
  call_gave = record { answer = with.answer; whole = fits; number = with.number; told = with.told; read = answer_read }

  call_stands : Stands (after e)
  call_stands = record {
    read = (taken e.left.record_bytes with.table with.read_back).0;
    good = good_after stands.good made;
    typed = step_typed (call_of e).own (state_of s) e.datagram e.out (call_of e).left stands.good stands.typed m.bytes m.room made.meets;
  }

-- ---- runs

-- calls from such buffers on are calls of `receive`, and leave such buffers
pub run_link : {s u : Buffers} {es : List Call} → Stands s → Run s es u → link.Run (state_of s) (map call_of es) (state_of u) × Stands u
run_link stands start = (link.start, stands)
run_link stands (next e run m) =
    let before = run_link stands run in
    (link.next (call_of e) before.0 (made _ e before.1 m), call_stands _ e before.1 m)

-- every run from the fresh buffers is one of `receive` from a fresh table
pub is_run : IsRun
is_run lent all es now run =
    subst (λ (t : Table). link.Run (record { table = t; bytes = lent }) (map call_of es) (state_of now))
    (sym (taken (replicate table-bytes 0) fresh_table zeros_fresh).1)
    (run_link (fresh_stands lent all) run).0

-- reached buffers are such buffers
pub reached_stands : {s : Buffers} → Reached s → Stands s
reached_stands c = (run_link (fresh_stands c.lent c.all) c.run).1

pub goes_on_lem : GoesOn
goes_on_lem first c es now run = (run_link (reached_stands c) run).0

pub reached_state : ReachedState
reached_state s c = record { lent = c.lent; all = c.all; calls = map call_of c.calls; run = is_run c.lent c.all c.calls s c.run }

-- ---- calls from reached buffers on

-- the buffers that they leave are reached,
pub reached_after : {first now : Buffers} {es : List Call} → Reached first → Run first es now → Reached now
reached_after c start = c
reached_after c (next e run m) =
    let before = reached_after c run in
    record { lent = before.lent; all = before.all; calls = e ∷ before.calls; run = next e before.run m }

-- each is a call of `receive`,
pub made_link : {s : Buffers} {e : Call} → Reached s → Made s e → link.Made (state_of s) (call_of e)
made_link c m = made _ _ (reached_stands c) m

-- and its answer is read off what it gave
pub made_gave : {s : Buffers} {e : Call} → Reached s → Made s e → Gave e
made_gave c m = call_gave _ _ (reached_stands c) m

-- ---- there are calls

module _ (s : Buffers) (stands : Stands s) (own : Option Address) (datagram told out : List ℕ) (room : most_l ≤ length out)
    (told_room : receipt_bytes ≤ length told) (bytes : Bytes datagram) (y : Reception) (step : Step own (state_of s) datagram out y) where
  answers : Answers y
  answers = step_answers own (state_of s) datagram out y stands.good stands.typed room step

  is_reception : y ≡ reception answers.0 y.table y.bytes y.out
  unfolding reception
  is_reception = ap (λ (a : ℕ × List ℕ). record { answer = a; table = y.table; bytes = y.bytes; out = y.out }) answers.1

  -- what a call with that reception leaves: the record packed, the answer told
  abbrev left_by : Held
  left_by = record { record_bytes = packed_of y.table; lent = y.bytes; told = told_after answers.0 told; out = y.out }

  received : CardReceived own datagram (record { record_bytes = s.table; lent = s.lent; told = told; out = out }) left_by
      (promise.number_of answers.0).0
  unfolding CardReceived on_record
  received = rw (eq-eqb (unpack_fault s.table) 0 stands.read, le-ltb (length told) (told_length receipt_widths) (room_told told told_room)) (record {
    answer = answers.0;
    table = y.table;
    step = subst (Step own (state_of s) datagram out) is_reception step;
    packed = refl;
    read_back = unpacks y.table (step_typed own (state_of s) datagram out y stands.good stands.typed bytes room step);
    told = refl;
    number = refl;
  })

-- whatever a call is handed with full room, there is one
pub some_call : SomeCall
some_call s c addressed source dest datagram told out room told_room bytes =
    let own = address_of addressed source dest in
    let stands = reached_stands c in
    let y = some_reception own (state_of s) datagram out in (
      left_by s stands own datagram told out room told_room bytes y.0 y.1,
      (promise.number_of (answers s stands own datagram told out room told_room bytes y.0 y.1).0).0,
      record { room = room; told_room = told_room; bytes = bytes; meets = received s stands own datagram told out room told_room bytes y.0 y.1 },
    )
