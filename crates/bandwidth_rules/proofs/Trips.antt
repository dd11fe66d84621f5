-- A written figure reads as itself, and what was read is written as it stood. Assumes nothing.
use mathlib.Core.Path.{◌≡◌, refl, sym, ap, subst, ◌∙◌}
use mathlib.Core.List.{List, [], ◌∷◌, ◌++◌, append_assoc, append-nil}
use Prim.Native.Nat.{ℕ, ◌+◌, ◌%◌}
use native.Mathlib.Omega.{arith}
use lib.ListN.{length, take, drop}
use lib.Seq.{take_all}
use lib.Ieee.{Float}
use Rattle.std.specs.Prelude.{Result, Ok, Err, Option, Some, None}
use Rattle.base_rules.specs.declared.Refusal.{Refusal}
use Rattle.base_rules.specs.Answer.{granted}
use Rattle.base_rules.specs.Bytes.{Bytes, number_at, bytes_of}
use Rattle.base_rules.specs.Round.{ceil}
use Rattle.base_rules.proofs.ByteLaws.{bytes_take, bytes_drop}
use Rattle.base_rules.proofs.Numbers.{length-bytes, number_back, bytes_back}
use Rattle.item_rules.specs.Item.{head, bytes_for, item_at}
use Rattle.base_rules.specs.Refusal.{told}
use Rattle.item_rules.specs.declared.Item.{Item}
use Rattle.item_rules.specs.declared.Repeats.{Repeats}
use Rattle.item_rules.specs.declared.Repeats.TheVariants.{Forbidden, Allowed}
use Rattle.item_rules.proofs.Starts.{raw_item}
use Rattle.item_rules.proofs.Steps.{zero_one}
use Rattle.tag_rules.specs.Find.{locate_of, value_of, shown_by}
use Rattle.tag_rules.specs.Calls.{values_at, located_number}
use Rattle.tag_rules.specs.Claims.{Shown}
use Rattle.tag_rules.specs.declared.Located.{Located}
use Rattle.tag_rules.specs.declared.Located.TheVariants as located
use Rattle.tag_rules.proofs.Numbers.{locate_number}
use Rattle.tag_rules.proofs.Inside.{found_in}
use Rattle.write_rules.specs.Write.{trimmed, item_bytes}
use Rattle.write_rules.specs.Packet.{Entry, packet_of}
use Rattle.write_rules.specs.Claims.{written_values, FoundAs}
use Rattle.write_rules.proofs.Back.{length-item}
use Rattle.write_rules.proofs.Proved.{finds, finds_repeated, whole_kept}
use Rattle.bandwidth_rules.specs.Figure.{figure_of, in256ths}
use Rattle.bandwidth_rules.specs.Read.{rbw, rbw_bits, held_in, said_by, bandwidth_of}
use Rattle.bandwidth_rules.specs.Write.{width_entry, none_entry}
use Rattle.bandwidth_rules.specs.Claims.{Placed, ReadsAsItself, NoneReads, StandsAs, WritesBack, NoneBack, ItemsLong}
use Rattle.bandwidth_rules.proofs.Figures.{figure_tested, figure_test}
use Rattle.bandwidth_rules.proofs.Reading.{held_width, held_none, value_below}
use Rattle.bandwidth_rules.proofs.Named.{Named, named}

-- ---- written, then read

-- what is said goes by the bits that the search tells and the bytes that it shows
said_told : (s t : List ℕ) (l : Result Located Refusal) (which name bits : ℕ) (rest : List ℕ) → located_number l ≡ granted (which ∷ name ∷ bits ∷ rest)
    → said_by s t l ≡ held_in bits (shown_by s t l)
unfolding located_number told values_at said_by
said_told s t (Ok (located.Packet i)) which name bits rest e = ap (λ (b : ℕ). held_in b (value_of s i)) (cc)
said_told s t (Ok (located.Standing i)) which name bits rest e = ap (λ (b : ℕ). held_in b (value_of t i)) (cc)
said_told s t (Err n) which name bits rest e = absurd (zero_one (cc))

-- so an entry of the name that is found as it was written says what its bits and its value do
module _ (w : Repeats) (before after : List Entry) (e : Entry) (pad standing : List ℕ) (h : Placed w before after e pad standing) (name : e.name ≡ rbw) where
  p : List ℕ
  p = packet_of (before ++ (e ∷ after)) pad

  found : FoundAs w (packet_of (before ++ (e ∷ after)) pad) standing (length (packet_of before [])) e
  found = by w h
    where
      by : (w : Repeats) → Placed w before after e pad standing
          → FoundAs w (packet_of (before ++ (e ∷ after)) pad) standing (length (packet_of before [])) e
      by Forbidden h =
          finds before after e pad standing h.fit (h.apart refl) h.few h.sound (rw name h.new)
      by Allowed h =
          finds_repeated before after e pad standing h.fit h.few h.sound (rw name h.new)

  pub written_said : bandwidth_of w (packet_of (before ++ (e ∷ after)) pad) standing ≡ held_in e.bits (trimmed e.bits e.value)
  unfolding bandwidth_of written_values
  written_said =
      let s : List ℕ = packet_of (before ++ (e ∷ after)) pad in
      let tells = locate_number w s standing rbw ∙ ap (λ (k : ℕ). Rattle.tag_rules.specs.Calls.locate_call w s standing k) (sym name) ∙ found.tells in
      said_told s standing (locate_of w s standing rbw) _ _ e.bits _ tells
      ∙ ap (held_in e.bits) (ap (λ (k : ℕ). shown_by s standing (locate_of w s standing k)) (sym name) ∙ found.value)

pub reads_as_itself : ReadsAsItself
unfolding held_in
reads_as_itself w before after x pad standing held t h =
    let is = (figure_tested x held).is t in
    let n : ℕ = in256ths x in
    written_said w before after (width_entry x) pad standing h refl
    ∙ ap (λ (v : List ℕ). Ok (Some (figure_of (number_at 2 v 0)))) (whole_kept rbw_bits (bytes_of 2 n) refl ∙ sym (append-nil (bytes_of 2 n)))
    ∙ ap (λ (k : ℕ). Ok (Some (figure_of k))) (number_back 2 n [] is.0)
    ∙ ap (λ (z : Float). Ok (Some z)) (sym is.1)

pub none_reads : NoneReads
unfolding held_in
none_reads w before after pad standing h = written_said w before after none_entry pad standing h refl

-- ---- read, then written

-- an item of whole bytes, as it stands in its packet
stands_as : (s : List ℕ) (i : Item) (bits : ℕ) (v : List ℕ) → Bytes s → Shown s i → i.name ≡ rbw → i.bits.0 ≡ bits → bits % 8 ≡ 0 → value_of s i ≡ v
    → take (length (item_bytes rbw bits v)) (drop i.start s) ≡ item_bytes rbw bits v
unfolding item_bytes value_of item_at
stands_as s i bits v bytes shown name eb whole ev =
    let sized : i.len.0 ≡ bytes_for i.bits.0 = ap (λ (j : Item). j.len.0) (sym shown.starts.spelt)
    ∙ ap bytes_for (ap (λ (j : Item). j.bits.0) shown.starts.spelt) in
    let lv : length v ≡ bytes_for bits = ap length (sym ev) ∙ shown.whole ∙ ap bytes_for eb in
    let long : length (item_bytes rbw bits v) ≡ head + i.len.0 = length-item rbw bits v lv ∙ omega (arith, sized, ap bytes_for eb) in
    ap (λ (k : ℕ). take k (drop i.start s)) long ∙ raw_item s i bytes shown.starts
    ∙ ap (λ (l : List ℕ). bytes_of 4 i.name ++ (bytes_of 4 i.bits.0 ++ l)) (ev ∙ sym (whole_kept bits v whole))
    ∙ ap (λ (k : ℕ). bytes_of 4 k ++ (bytes_of 4 i.bits.0 ++ trimmed bits v)) name
    ∙ ap (λ (k : ℕ). bytes_of 4 rbw ++ (bytes_of 4 k ++ trimmed bits v)) eb
    ∙ sym (append_assoc (bytes_of 4 rbw) (bytes_of 4 bits) (trimmed bits v))

-- the value of an item that says the figure x is the two bytes of its 256ths
width_stands : (s : List ℕ) (i : Item) (x : Float) → Bytes s → Shown s i → i.name ≡ rbw → held_in i.bits.0 (value_of s i) ≡ Ok (Some x)
    → StandsAs s i (width_entry x)
unfolding value_of bytes_for ceil
width_stands s i x bytes shown name e =
    let by = held_width i.bits.0 (value_of s i) x e in
    let v : List ℕ = value_of s i in
    let two : length v ≡ 2 = shown.whole ∙ ap bytes_for by.0 in
    let n : ℕ = number_at 2 v 0 in
    let many : in256ths x ≡ n = ap in256ths by.1 ∙ (figure_test n (value_below s i bytes)).1 in
    let held : Bytes v = bytes_take i.len.0 (drop i.from s) (bytes_drop i.from s bytes) in
    let back : bytes_of 2 n ≡ v = bytes_back 2 v 0 held (omega (arith, two)) ∙ take_all 2 v (omega (arith, two)) in
    stands_as s i rbw_bits (bytes_of 2 (in256ths x)) bytes shown name by.0 refl (sym (ap (bytes_of 2) many ∙ back))

none_stands : (s : List ℕ) (i : Item) → Bytes s → Shown s i → i.name ≡ rbw → held_in i.bits.0 (value_of s i) ≡ Ok None
    → StandsAs s i none_entry
unfolding bytes_for ceil
none_stands s i bytes shown name e =
    let bits : i.bits.0 ≡ 0 = held_none i.bits.0 (value_of s i) e in
    stands_as s i 0 [] bytes shown name bits refl (empty (value_of s i) (shown.whole ∙ ap bytes_for bits))
  where
    empty : (v : List ℕ) → length v ≡ 0 → v ≡ []
    empty [] h = refl
    empty (a ∷ v) h = absurd (omega (arith, h))

module _ (w : Repeats) (s t : List ℕ) (i : Item) where
  said_here : (a : Result (Option Float) Refusal) → bandwidth_of w s t ≡ a → locate_of w s t rbw ≡ Ok (located.Packet i) → held_in i.bits.0 (value_of s i) ≡ a
  unfolding bandwidth_of said_by
  said_here a e q = sym (ap (said_by s t) q) ∙ e

  said_there : (a : Result (Option Float) Refusal) → bandwidth_of w s t ≡ a → locate_of w s t rbw ≡ Ok (located.Standing i) → held_in i.bits.0 (value_of t i) ≡ a
  unfolding bandwidth_of said_by
  said_there a e q = sym (ap (said_by s t) q) ∙ e

  name_here : locate_of w s t rbw ≡ Ok (located.Packet i) → i.name ≡ rbw
  name_here q = subst (Named rbw) q (named rbw w s t)

  name_there : locate_of w s t rbw ≡ Ok (located.Standing i) → i.name ≡ rbw
  name_there q = subst (Named rbw) q (named rbw w s t)

pub writes_back : WritesBack
writes_back w s t i x bs bt e = (
  (λ q. width_stands s i x bs ((found_in w s t rbw i).0 q) (name_here w s t i q) (said_here w s t i _ e q)),
  (λ q. width_stands t i x bt ((found_in w s t rbw i).1 q) (name_there w s t i q) (said_there w s t i _ e q)),
)

pub none_back : NoneBack
none_back w s t i bs bt e = (
  (λ q. none_stands s i bs ((found_in w s t rbw i).0 q) (name_here w s t i q) (said_here w s t i _ e q)),
  (λ q. none_stands t i bt ((found_in w s t rbw i).1 q) (name_there w s t i q) (said_there w s t i _ e q)),
)

pub items_long : ItemsLong
unfolding bytes_for ceil
items_long = ((λ x. length-item rbw rbw_bits (bytes_of 2 (in256ths x)) (length-bytes 2 (in256ths x))), length-item rbw 0 [] refl)
