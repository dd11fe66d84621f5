-- The claims of specs/Claims.antt, each by citation. Assumes nothing.
use mathlib.Core.Path.{◌≡◌, refl, sym, ap, ◌∙◌}
use mathlib.Core.Bool.{false}
use mathlib.Core.List.{List, [], ◌∷◌, ◌++◌}
use Prim.Native.Nat.{ℕ, ◌+◌, ◌^◌, ◌≤◌}
use native.Mathlib.Nat.{zero-add, mod-one}
use native.Mathlib.Omega.{arith}
use lib.ListN.{length, take, drop}
use Rattle.std.specs.Prelude.{Some}
use Rattle.base_rules.specs.Refusal.{number, told}
use Rattle.item_rules.specs.Item.{head, bytes_for, unused_of}
use Rattle.item_rules.specs.Run.{Run, first_of, named_in, nth_of, faults_of}
use Rattle.item_rules.specs.declared.Repeats.{Repeats}
use Rattle.item_rules.specs.declared.Repeats.TheVariants.{Forbidden, Allowed}
use Rattle.item_rules.proofs.Proved.{first_is_nth}
use Rattle.base_rules.specs.Answer.{answered}
use Rattle.base_rules.specs.Tests.{among}
use Rattle.tag_rules.specs.Find.{whole_run, check_of, value_of}
use Rattle.tag_rules.specs.Calls.{open_call, located_number}
use Rattle.tag_rules.proofs.Numbers.{nth_number}
use Rattle.tag_rules.proofs.Searches.{found_here, nth_found}
use Rattle.tag_rules.proofs.Proved.{nth_beyond}
use Rattle.write_rules.specs.Write.{trimmed_by, trimmed}
use Rattle.write_rules.specs.Packet.{Entry, packet_of, names_of, written_as, AllFit, Apart}
use Rattle.write_rules.specs.Claims.{ReadsBack, Opens, RefusesTwice, FoundAs, Finds, OpensRepeated, FindsRepeated, FindsNth, NoMore}
use Rattle.write_rules.specs.Claims.{written_values, UnusedZero, TrimmedOnce, WholeKept}
use Rattle.write_rules.proofs.Back as back
use Rattle.write_rules.proofs.Packets.{item_of, run_written, faults_none, faults_again, faults_repeated, packet_split, fits_at}
use Rattle.write_rules.proofs.Packets.{none_written, as_many, nth_written}
use Rattle.write_rules.proofs.Trimming.{last_down, stays, unused_none}

pub reads_back : ReadsBack
reads_back = back.reads_back

-- no item is at fault,
sound : (es : List Entry) (pad : List ℕ) → AllFit es → Apart es → length pad ≤ 7 → check_of Forbidden (packet_of es pad) ≡ 0
unfolding among check_of
sound es pad fit apart few = ap (faults_of Forbidden []) (run_written [] es pad fit few) ∙ faults_none [] 0 es (length pad) fit apart (λ m d q. refl)

-- nor is any where names may repeat
sound_repeated : (es : List Entry) (pad : List ℕ) → AllFit es → length pad ≤ 7 → check_of Allowed (packet_of es pad) ≡ 0
unfolding check_of
sound_repeated es pad fit few = ap (faults_of Allowed []) (run_written [] es pad fit few) ∙ faults_repeated [] 0 es (length pad) fit

-- so it is with either word, where it is so with what it asks of the names
sound_by : (w : Repeats) (es : List Entry) (pad : List ℕ) → AllFit es → (w ≡ Forbidden → Apart es) → length pad ≤ 7 → check_of w (packet_of es pad) ≡ 0
sound_by Forbidden es pad fit apart few = sound es pad fit (apart refl) few
sound_by Allowed es pad fit apart few = sound_repeated es pad fit few

pub opens : Opens
unfolding open_call answered
opens es pad fit apart few = simp (sound es pad fit apart few)

pub refuses_twice : RefusesTwice
unfolding open_call answered among check_of
refuses_twice before after e pad fit apart few d again =
    let number : check_of Forbidden (packet_of (before ++ (e ∷ after)) pad) ≡ 31 =
    ap (faults_of Forbidden []) (run_written [] (before ++ (e ∷ after)) pad fit few)
    ∙ faults_again [] 0 before after e (length pad) fit apart (λ m d q. refl) d (simp again) in
    simp number

pub opens_repeated : OpensRepeated
unfolding open_call answered
opens_repeated es pad fit few = simp (sound_repeated es pad fit few)

-- and each item stands where it was written
module _ (before after : List Entry) (e : Entry) (pad : List ℕ) (fit : AllFit (before ++ (e ∷ after))) (few : length pad ≤ 7) where
  nth : nth_of e.name (length (written_as e.name before)) (whole_run (packet_of (before ++ (e ∷ after)) pad)) ≡ Some
      (item_of (length (packet_of before [])) e)
  nth =
      ap (nth_of e.name (length (written_as e.name before))) (run_written [] (before ++ (e ∷ after)) pad fit few)
      ∙ nth_written 0 before after e (length pad) fit ∙ ap (λ (k : ℕ). Some (item_of k e)) (zero-add (length (packet_of before [])))

  -- the first under its name is occurrence 0
  first : among e.name (names_of before) ≡ false → first_of e.name (whole_run (packet_of (before ++ (e ∷ after)) pad)) ≡ Some
      (item_of (length (packet_of before [])) e)
  first new =
      let r : Run = whole_run (packet_of (before ++ (e ∷ after)) pad) in
      first_is_nth e.name r ∙ ap (λ (l : List Entry). nth_of e.name (length l) r) (sym (none_written e.name before new)) ∙ nth

  value : value_of (packet_of (before ++ (e ∷ after)) pad) (item_of (length (packet_of before [])) e) ≡ trimmed e.bits e.value
  unfolding packet_of value_of
  value =
      let pre : List ℕ = packet_of before [] in
      let fits = fits_at before after e fit in
      let read =
      back.reads_back pre (packet_of after pad) (length pre + (head + bytes_for e.bits)) e.name e.bits e.value fits.name_held
      fits.bits_held fits.whole (omega arith) in
      ap (λ (l : List ℕ). take (bytes_for e.bits) (drop (length pre + head) l)) (packet_split before (e ∷ after) pad) ∙ read.bytes

  -- so it is found, with either word
  found_first : (w : Repeats) (standing : List ℕ) → check_of w (packet_of (before ++ (e ∷ after)) pad) ≡ 0 → check_of w standing ≡ 0
      → among e.name (names_of before) ≡ false → FoundAs w (packet_of (before ++ (e ∷ after)) pad) standing (length (packet_of before [])) e
  unfolding written_values
  found_first w standing whole still new =
      let here =
      found_here w (packet_of (before ++ (e ∷ after)) pad) standing e.name (item_of (length (packet_of before [])) e) whole still (first new) in
      record { tells = here.0; value = here.1 ∙ value }

pub finds : Finds
finds before after e pad standing fit apart few = found_first before after e pad fit few Forbidden standing (sound (before ++ (e ∷ after)) pad fit apart few)

pub finds_repeated : FindsRepeated
finds_repeated before after e pad standing fit few =
    found_first before after e pad fit few Allowed standing (sound_repeated (before ++ (e ∷ after)) pad fit few)

pub finds_nth : FindsNth
unfolding written_values
finds_nth w before after e pad fit apart few =
    let here =
    nth_found w (packet_of (before ++ (e ∷ after)) pad) e.name (length (written_as e.name before)) (item_of (length (packet_of before [])) e)
    (sound_by w (before ++ (e ∷ after)) pad fit apart few) (nth before after e pad fit few) in
    record { tells = here.0; value = here.1 ∙ value before after e pad fit few }

pub no_more : NoMore
unfolding located_number told number
no_more w es name number pad fit apart few beyond =
    let count : length (named_in name (whole_run (packet_of es pad))) ≡ length (written_as name es) =
    ap (λ (r : Run). length (named_in name r)) (run_written [] es pad fit few) ∙ as_many name 0 es (length pad) in
    sym (nth_number w (packet_of es pad) name number)
    ∙ ap located_number ((nth_beyond w (packet_of es pad) name number (sound_by w es pad fit apart few)).beyond (omega (arith, count)))

pub unused_zero : UnusedZero
unfolding trimmed
unused_zero bits v = last_down (2 ^ unused_of bits) v

pub trimmed_once : TrimmedOnce
unfolding trimmed
trimmed_once bits v = stays (2 ^ unused_of bits) (trimmed_by (2 ^ unused_of bits) v) (last_down (2 ^ unused_of bits) v)

pub whole_kept : WholeKept
unfolding trimmed
whole_kept bits v e = ap (λ (u : ℕ). trimmed_by (2 ^ u) v) (unused_none bits e) ∙ stays 1 v (mod-one _)
