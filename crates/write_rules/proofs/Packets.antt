-- A packet of written items is the run of those items. Assumes nothing.
use mathlib.Core.Path.{◌≡◌, refl, sym, ap, subst, ◌∙◌}
use mathlib.Core.Bool.{Bool, true, false, ◌||◌}
use mathlib.Core.List.{List, [], ◌∷◌, ◌++◌, append_assoc}
use Prim.Native.Nat.{ℕ, suc, ◌+◌, ◌-◌, ◌≤◌}
use native.Mathlib.Nat.{add-zero}
use native.Mathlib.Omega.{arith}
use lib.Dec.{eqb}
use lib.ListN.{length, length-append}
use borrow.Author.Tests.{lt-ltb, eq-eqb, eqb-true, eqb-false}
use Rattle.base_rules.specs.Tests.{among}
use Rattle.base_rules.proofs.Logic.{either, clash, or_left, or_right}
use Rattle.std.specs.Prelude.{Ok, Some}
use Rattle.item_rules.specs.Item.{head, bytes_for, unused_of, item_at, step_in}
use Rattle.item_rules.specs.Run.{Run, item, padding, next_of, run_of, named_in, nth_of, forbids, faults_of, fault_of, dmy}
use Rattle.item_rules.specs.declared.Item.{Item}
use Rattle.item_rules.specs.declared.Repeats.TheVariants.{Forbidden, Allowed}
use Rattle.item_rules.specs.declared.Step.TheVariants as step
use Rattle.item_rules.proofs.Runs.{run-item, run_end}
use Rattle.item_rules.proofs.Faults.{fault_dmy, fault_none}
use Rattle.item_rules.proofs.Proved.{one_item, twice}
use Rattle.write_rules.specs.Write.{item_bytes}
use Rattle.write_rules.specs.Packet.{Entry, packet_of, names_of, written_as, Fits, AllFit, Apart}
use Rattle.write_rules.specs.Claims.{written_values, ReadAs}
use Rattle.write_rules.proofs.Back.{length-item, reads_back}

-- the item that is read where e was written at `at`
abbrev pub item_of : ℕ → Entry → Item
item_of at e = record {
  name = e.name;
  bits = record { 0 = e.bits };
  from = at + head;
  len = record { 0 = bytes_for e.bits };
  start = at;
  unused = record { 0 = unused_of e.bits };
}

-- since it tells what was written
is_written : (s : List ℕ) (at end : ℕ) (e : Entry) {value : List ℕ} → ReadAs s at end e.name e.bits value → step_in s at end ≡ Ok (step.Item (item_of at e))
unfolding written_values
is_written s at end e read = read.item ∙ ap (λ (i : Item). Ok (step.Item i)) (one_item (item_at s at) (item_of at e) read.tells)

-- those of all entries
unfoldable pub entries_run : ℕ → List Entry → ℕ → Run
entries_run at [] n = padding n
entries_run at (e ∷ es) n = item (item_of at e) (entries_run (next_of (item_of at e)) es n)

-- 7 or fewer bytes left are padding
pads : (s : List ℕ) (at end n : ℕ) → end ≡ at + n → n ≤ 7 → run_of s at end ≡ padding n
unfolding step_in
pads s at end n e h =
    let left : end - at ≡ n = omega arith in
    let few : step_in s at end ≡ Ok (step.End (record { 0 = end - at })) = simp (lt-ltb (end - at) head (omega arith)) in
    run_end s at end (record { 0 = end - at }) few ∙ ap padding left

-- the run of what was written behind `pre`
pub run_written : (pre : List ℕ) (es : List Entry) (pad : List ℕ) → AllFit es → length pad ≤ 7
    → run_of (pre ++ packet_of es pad) (length pre) (length (pre ++ packet_of es pad)) ≡ entries_run (length pre) es (length pad)
unfolding entries_run packet_of
run_written pre [] pad fit few = pads (pre ++ pad) (length pre) (length (pre ++ pad)) (length pad) (length-append pre pad) few
run_written pre (e ∷ es) pad fit few =
    let it : List ℕ = item_bytes e.name e.bits e.value in
    let rest : List ℕ = packet_of es pad in
    let s : List ℕ = pre ++ (it ++ rest) in
    let long : length it ≡ head + bytes_for e.bits = length-item e.name e.bits e.value fit.0.whole in
    let all : length s ≡ length pre + (length it + length rest) = length-append pre (it ++ rest)
    ∙ ap (λ (k : ℕ). length pre + k) (length-append it rest) in
    let read = reads_back pre rest (length s) e.name e.bits e.value fit.0.name_held fit.0.bits_held fit.0.whole (omega arith) in
    let next : length (pre ++ it) ≡ next_of (item_of (length pre) e) = length-append pre it ∙ omega (arith, long) in
    let on : run_of s (length (pre ++ it)) (length s) ≡ entries_run (length (pre ++ it)) es (length pad) =
    ap (λ (l : List ℕ). run_of l (length (pre ++ it)) (length l)) (sym (append_assoc pre it rest)) ∙ run_written (pre ++ it) es pad fit.1 few in
    run-item s (length pre) (length s) (item_of (length pre) e) (is_written s (length pre) (length s) e read)
    ∙ ap (item (item_of (length pre) e))
    (ap (λ (k : ℕ). run_of s k (length s)) (sym next) ∙ on ∙ ap (λ (k : ℕ). entries_run k es (length pad)) next)

-- ---- none is at fault

-- no name but "*dmy" of these stands among those seen
abbrev Unseen : List ℕ → List Entry → Type 0
Unseen seen es = (m : ℕ) → (m ≡ dmy → ⊥) → among m (names_of es) ≡ true → among m seen ≡ false

unseen_next : (seen : List ℕ) (e : Entry) (es : List Entry) → Apart (e ∷ es) → Unseen seen (e ∷ es) → Unseen (e.name ∷ seen) es
unfolding among names_of
unseen_next seen e es apart h m d q =
    either (eqb e.name m)
    (λ t. let same : e.name ≡ m = eqb-true e.name m t in clash q
    (subst (λ x. among x (names_of es) ≡ false) same (apart.0 (λ z. d (sym same ∙ z)))))
    (λ t. simp t (h m d (simp (t, q))))

no_fault : (seen : List ℕ) (at : ℕ) (e : Entry) (es : List Entry) → Fits e → Unseen seen (e ∷ es) → fault_of (among e.name seen) (item_of at e) ≡ 0
unfolding among names_of
no_fault seen at e es fit h =
    either (eqb e.name dmy)
    (λ t. sym (fault_dmy _ (item_of at e) (eqb-true _ _ t)))
    (λ t. sym (fault_none _ (item_of at e) (h e.name (eqb-false _ _ t) (simp (eq-eqb e.name e.name refl))) fit.ptr_right))

-- of items that fit none is at fault, where no name but "*dmy" comes twice or was seen before
pub faults_none : (seen : List ℕ) (at : ℕ) (es : List Entry) (n : ℕ) → AllFit es → Apart es → Unseen seen es
    → faults_of Forbidden seen (entries_run at es n) ≡ 0
unfolding entries_run faults_of forbids
faults_none seen at [] n fit apart h = refl
faults_none seen at (e ∷ es) n fit apart h =
    simp (no_fault seen at e es fit.0 h) (faults_none (e.name ∷ seen) (next_of (item_of at e)) es n fit.1 apart.1
    (unseen_next seen e es apart h))

either_way : (x y z : Bool) → (x || y) || z ≡ true → y || (x || z) ≡ true
either_way true true z q = refl
either_way true false z q = refl
either_way false true z q = refl
either_way false false z q = q

-- where an item comes whose name stands among those or was seen, the packet has 31
pub faults_again : (seen : List ℕ) (at : ℕ) (before after : List Entry) (e : Entry) (n : ℕ) → AllFit (before ++ (e ∷ after)) → Apart before
    → Unseen seen before → (e.name ≡ dmy → ⊥) → among e.name (names_of before) || among e.name seen ≡ true
    → faults_of Forbidden seen (entries_run at (before ++ (e ∷ after)) n) ≡ 31
unfolding entries_run faults_of forbids among names_of
faults_again seen at [] after e n fit apart h d q = twice seen (item_of at e) (entries_run (next_of (item_of at e)) after n) d q
faults_again seen at (b ∷ before) after e n fit apart h d q =
    simp (no_fault seen at b before fit.0 h) (faults_again (b.name ∷ seen) (next_of (item_of at b)) before after e n fit.1 apart.1
    (unseen_next seen b before apart h) d (either_way (eqb b.name e.name) (among e.name (names_of before)) (among e.name seen) q))

-- where names may repeat, of items that fit none is at fault, whatever their names are
pub faults_repeated : (seen : List ℕ) (at : ℕ) (es : List Entry) (n : ℕ) → AllFit es → faults_of Allowed seen (entries_run at es n) ≡ 0
unfolding entries_run faults_of forbids
faults_repeated seen at [] n fit = refl
faults_repeated seen at (e ∷ es) n fit =
    simp (sym (fault_none false (item_of at e) refl fit.0.ptr_right)) (faults_repeated (e.name ∷ seen) (next_of (item_of at e)) es n fit.1)

-- ---- the occurrences of a name

-- a packet is the bytes of its first items and then the packet of the others
pub packet_split : (before es : List Entry) (pad : List ℕ) → packet_of (before ++ es) pad ≡ packet_of before [] ++ packet_of es pad
unfolding packet_of
packet_split [] es pad = refl
packet_split (b ∷ before) es pad =
    let it : List ℕ = item_bytes b.name b.bits b.value in
    ap (λ (l : List ℕ). it ++ l) (packet_split before es pad) ∙ sym (append_assoc it (packet_of before []) (packet_of es pad))

-- where all items fit, each one does
pub fits_at : (before after : List Entry) (e : Entry) → AllFit (before ++ (e ∷ after)) → Fits e
fits_at [] after e fit = fit.0
fits_at (b ∷ before) after e fit = fits_at before after e fit.1

-- where none of the items has a name, none is written under it
pub none_written : (name : ℕ) (es : List Entry) → among name (names_of es) ≡ false → written_as name es ≡ []
unfolding among names_of written_as
none_written name [] new = refl
none_written name (e ∷ es) new =
    simp (or_left (eqb e.name name) (among name (names_of es)) new)
    (none_written name es (or_right (eqb e.name name) (among name (names_of es)) new))

-- as many items of a name are read as were written
pub as_many : (name at : ℕ) (es : List Entry) (n : ℕ) → length (named_in name (entries_run at es n)) ≡ length (written_as name es)
unfolding entries_run named_in written_as
as_many name at [] n = refl
as_many name at (e ∷ es) n =
    let on = as_many name (next_of (item_of at e)) es n in
    either (eqb e.name name) (λ t. simp t (ap suc on)) (λ f. simp f on)

-- an item is the occurrence with the number of those written under its name before it, right behind the bytes of all before it
pub nth_written : (at : ℕ) (before after : List Entry) (e : Entry) (n : ℕ) → AllFit (before ++ (e ∷ after))
    → nth_of e.name (length (written_as e.name before)) (entries_run at (before ++ (e ∷ after)) n)
    ≡ Some (item_of (at + length (packet_of before [])) e)
unfolding entries_run nth_of named_in packet_of written_as
nth_written at [] after e n fit =
    simp (eq-eqb e.name e.name refl, add-zero)
nth_written at (b ∷ before) after e n fit =
    let it : List ℕ = item_bytes b.name b.bits b.value in
    let long = length-item b.name b.bits b.value fit.0.whole in
    let next : next_of (item_of at b) + length (packet_of before []) ≡ at + length (it ++ packet_of before []) =
    omega (arith, long, length-append it (packet_of before [])) in
    let on = nth_written (next_of (item_of at b)) before after e n fit.1 ∙ ap (λ (k : ℕ). Some (item_of k e)) next in
    either (eqb b.name e.name) (λ t. simp t on) (λ f. simp f on)
