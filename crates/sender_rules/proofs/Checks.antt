-- Which number a packet is refused with before anything is sent, and what is known of one that is not refused. Assumes nothing.
use mathlib.Core.Path.{◌≡◌, refl, sym, ap, ◌∙◌}
use mathlib.Core.Bool.{Bool, true, false, cond, not}
use mathlib.Core.List.{List, [], ◌∷◌, ◌++◌}
use Prim.Native.Nat.{ℕ, ◌≤◌, ◌<◌}
use native.Mathlib.Nat.{pos_of_ne-zero}
use native.Mathlib.Omega.{arith}
use borrow.Author.Tests.{ltb-false, le-ltb, eqb-true, eqb-false, not-false}
use lib.Dec.{ltb, eqb, lit<}
use lib.ListN.{length}
use Rattle.std.specs.Prelude.{Result, Ok, Err}
use Rattle.base_rules.specs.Answer.{refused, answered}
use Rattle.base_rules.specs.Bounds.{least_l, most_l, most_f}
use Rattle.base_rules.specs.Refusal.{number, told}
use Rattle.base_rules.specs.declared.Refusal.{Refusal}
use Rattle.base_rules.specs.declared.Refusal.TheVariants as refusal
use Rattle.base_rules.specs.Tests.{first}
use Rattle.base_rules.proofs.Answers.{refuses, number-positive}
use Rattle.base_rules.proofs.ByFault.{told_err}
use Rattle.base_rules.proofs.Firsts.{due, skip, clear, clear_rest}
use Rattle.base_rules.proofs.Logic.{either, same, other}
use Rattle.cut_rules.specs.Plan.{fit, plan_fault, plan_of, figures_of, values_of, number_of}
use Rattle.cut_rules.specs.Sizes.{f}
use Rattle.cut_rules.specs.declared.Settings.{Settings}
use Rattle.cut_rules.specs.declared.Figures.{Figures}
use Rattle.cut_rules.proofs.PlanCases.{Within, within, plan_40, one_planned}
use Rattle.af_rules.specs.Calls.{af_fault, check_call}
use Rattle.af_rules.specs.Calls as calls
use Rattle.af_rules.specs.declared.Figures as declared
use Rattle.af_rules.proofs.Proved.{a3}
use Rattle.code_rules.proofs.CallCases.{granted_by, refused_by}
use Rattle.sender_rules.specs.Calls.{checks, packet_fault}
use Rattle.sender_rules.specs.inner.Parts.{Figured}

-- ---- the AF checks, by what was answered

module _ (packet : List ℕ) where
  -- the number with which the AF check refused is the one that is due
  pub af-refused : (e : Refusal) → calls.number_of (Err e) ≡ check_call packet → number e ≡ af_fault packet
  unfolding check_call calls.number_of told
  af-refused e due = (refused_by (number e) (af_fault packet) _ due).0

  -- where the AF check took the packet, no AF number is due
  pub af-granted : (a : declared.Figures) → calls.number_of (Ok a) ≡ check_call packet → 0 ≡ af_fault packet
  unfolding check_call calls.number_of told
  af-granted a e = (granted_by (af_fault packet) _ _ e).0

-- ---- the settings, by what a plan was answered

-- none of the other numbers of a plan is 40
not_40 : (a b c : Bool) → 40 ≡ first ((a, 20) ∷ (b, 22) ∷ (c, 41) ∷ []) → ⊥
unfolding first
not_40 true b c e = omega arith
not_40 false true c e = omega arith
not_40 false false true e = omega arith
not_40 false false false e = omega arith

module _ (g : Settings) (l : ℕ) (planned : Result Figures Refusal) (e : number_of planned ≡ plan_of g l) where
  unfit_40 : planned ≡ Err refusal.Settings → fit g ≡ false
  unfolding plan_of plan_fault number_of told number
  unfit_40 is =
      let told : refused 40 ≡ plan_of g l = sym (ap number_of is) ∙ e in
      let fault : 40 ≡ plan_fault g l = (refused_by 40 (plan_fault g l) _ told).0 in
      either (fit g) (λ (ok : fit g ≡ true). absurd (not_40 _ _ _ (fault ∙ sym (skip 40 _ (rw ok) refl)))) (λ bad. bad)

  -- settings whose plan is answered with anything but 40 fit
  pub fit_else : (planned ≡ Err refusal.Settings → ⊥) → fit g ≡ true
  unfolding number_of told number
  fit_else is-not = either (fit g) (λ ok. ok) (λ bad. absurd (is-not (one_planned planned (Err refusal.Settings) (e ∙ sym (plan_40 g l bad)))))

-- ---- the number that is due

-- tests behind one that is due change nothing
first_more : (ts us : List (Bool × ℕ)) (n : ℕ) → 0 < n → n ≡ first ts → n ≡ first (ts ++ us)
unfolding first
first_more [] us n h e = absurd (omega arith)
first_more (t ∷ ts) us n h e = go t.0 (first_more ts us n h) e
  where
    go : (b : Bool) → (n ≡ first ts → n ≡ first (ts ++ us)) → n ≡ cond b t.1 (first ts) → n ≡ cond b t.1 (first (ts ++ us))
    go true more q = q
    go false more q = more q

module _ (g : Settings) (packet : List ℕ) where
  -- a number that is due for the packet stays due, whatever is checked behind it
  pub due_more : (n : ℕ) (rest : List (Bool × ℕ)) → 0 < n → n ≡ packet_fault g packet → n ≡ first (checks g packet rest)
  unfolding packet_fault
  due_more n rest h e = first_more (checks g packet []) rest n h e

  -- where nothing is due of the packet's checks and of those behind them, nothing is due for the packet
  pub none_more : (rest : List (Bool × ℕ)) → first (checks g packet rest) ≡ 0 → packet_fault g packet ≡ 0
  none_more rest none =
      either (eqb (packet_fault g packet) 0) (λ e. eqb-true (packet_fault g packet) 0 e)
      (λ e. due_more (packet_fault g packet) rest (pos_of_ne-zero (eqb-false (packet_fault g packet) 0 e)) refl ∙ none)

  -- the answer so far: 40, the AF checks, and else what the plan says
  pub ready_40 : (planned : Result Figures Refusal) → number_of planned ≡ plan_of g (length packet) → planned ≡ Err refusal.Settings
      → number_of planned ≡ answered (packet_fault g packet) (figures_of g (length packet))
  unfolding packet_fault number_of told number
  ready_40 planned e is =
      let bad : fit g ≡ false = unfit_40 g (length packet) planned e is in
      ap number_of is ∙ refuses 40 _ _ (lit< tt) (due 40 _ (rw bad))

  module _ (ok : fit g ≡ true) where
    -- at settings that fit, a packet that fails the AF checks is refused with their number
    pub ready_af : (e : Refusal) → number e ≡ af_fault packet → number_of (Err e) ≡ answered (packet_fault g packet) (figures_of g (length packet))
    unfolding packet_fault number_of
    ready_af e is =
        let faulty : af_fault packet ≡ 0 → ⊥ = λ (z : af_fault packet ≡ 0). omega (arith, is, number-positive e) in
        told_err _ values_of _ e (is ∙ skip 40 _ (rw ok) (due (af_fault packet) _ (other faulty)))

    -- behind the AF checks a plan of the length alone has the same number
    same_fault : af_fault packet ≡ 0 → plan_fault g (length packet) ≡ packet_fault g packet
    unfolding packet_fault plan_fault
    same_fault sound =
        let bounds = a3 packet sound in
        sym (skip 40 _ (rw ok) (skip 20 _ (le-ltb (length packet) least_l bounds.0) (skip 22 _ (le-ltb most_l (length packet) bounds.1) refl)))
        ∙ skip 40 _ (rw ok) (skip (af_fault packet) _ (same sound) refl)

    -- at settings that fit, a packet that passes the AF checks is answered as the plan of its length
    pub ready_plan : (planned : Result Figures Refusal) → number_of planned ≡ plan_of g (length packet) → af_fault packet ≡ 0
        → number_of planned ≡ answered (packet_fault g packet) (figures_of g (length packet))
    unfolding plan_of
    ready_plan planned e sound = e ∙ ap (λ (n : ℕ). answered n (figures_of g (length packet))) (same_fault sound)

  -- what that answer tells
  pub figured : (p : Figures) → number_of (Ok p) ≡ answered (packet_fault g packet) (figures_of g (length packet)) → Figured g packet p
  unfolding number_of told
  figured p e =
      let both = granted_by (packet_fault g packet) _ _ e in
      record { values = both.1; passed = sym both.0 }

  -- a refusal in place of the figures has the packet's number, which is not 0
  pub unready : (e : Refusal) → number_of (Err e) ≡ answered (packet_fault g packet) (figures_of g (length packet))
      → (number e ≡ packet_fault g packet) × (0 < number e)
  unfolding number_of told
  unready e due = refused_by (number e) (packet_fault g packet) _ due

  -- ---- a packet that is not refused

  module _ (passed : packet_fault g packet ≡ 0) where
    many : List (Bool × ℕ)
    many = (ltb most_f (f g (length packet)), 41) ∷ []

    unsound : List (Bool × ℕ)
    unsound = (not (eqb (af_fault packet) 0), af_fault packet) ∷ many

    ok : fit g ≡ true
    unfolding packet_fault many unsound
    ok = not-false (fit g) (clear (not (fit g)) 40 unsound (λ (e : 40 ≡ 0). omega arith) passed)

    checked_rest : first unsound ≡ 0
    unfolding packet_fault many unsound
    checked_rest = clear_rest (not (fit g)) 40 unsound (λ (e : 40 ≡ 0). omega arith) passed

    -- a packet that is not refused passes the AF checks
    pub sound : af_fault packet ≡ 0
    unfolding unsound
    sound = either (eqb (af_fault packet) 0) (λ e. eqb-true (af_fault packet) 0 e) (λ e. due (af_fault packet) many (rw e) ∙ checked_rest)

    few : f g (length packet) ≤ most_f
    unfolding many unsound
    few = ltb-false most_f (f g (length packet)) (clear _ 41 [] (λ (e : 41 ≡ 0). omega arith) (skip (af_fault packet) many (same sound) refl
        ∙ checked_rest))

    -- the length of a packet that is not refused has a plan that is not refused
    pub taken : plan_fault g (length packet) ≡ 0
    taken = same_fault ok sound ∙ passed

    -- a packet that is not refused has fit settings, 12 to 8,192 bytes and at most 256 fragments
    pub in_bounds : Within g (length packet)
    in_bounds = within g (length packet) taken

    -- what is checked besides decides
    pub rest_due : {r : ℕ} (rest : List (Bool × ℕ)) → r ≡ first rest → r ≡ first (checks g packet rest)
    rest_due rest e =
        skip 40 _ (rw ok) (skip (af_fault packet) _ (same sound) (skip 41 rest (le-ltb most_f (f g (length packet)) few) e))
