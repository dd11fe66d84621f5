-- Where a search ends, by what the checks and the two searches say. Assumes nothing.
use Prim.Native.Nat.{ℕ}
use mathlib.Core.List.{List, ◌∷◌}
use mathlib.Core.Path.{◌≡◌, refl, sym, ap, ◌∙◌}
use borrow.Author.Tests.{eq-eqb}
use Rattle.std.specs.Prelude.{Result, Ok, Err, Option, Some}
use Rattle.base_rules.specs.Answer.{granted}
use Rattle.base_rules.specs.Refusal.{number as number_for, told}
use Rattle.base_rules.specs.declared.Refusal.{Refusal}
use Rattle.base_rules.specs.declared.Refusal.TheVariants as refusal
use Rattle.base_rules.proofs.Refusals.{denied}
use Rattle.item_rules.specs.declared.Item.{Item}
use Rattle.item_rules.specs.declared.Repeats.{Repeats}
use Rattle.item_rules.specs.Item.{values_of}
use Rattle.item_rules.specs.Run.{first_of, nth_of}
use Rattle.tag_rules.specs.Find.{whole_run, check_of, in_packet, in_standing, locate_of, locate_nth_of, value_of, shown_by}
use Rattle.tag_rules.specs.Calls.{opened_number, open_call, values_at, located_number, locate_call, locate_nth_call}
use Rattle.tag_rules.proofs.Numbers.{granted_by, refused_by, locate_number, nth_number}

module _ (w : Repeats) (s t : List ℕ) (name : ℕ) where
  -- the packet is refused,
  pub refused-first : (e : Refusal) → number_for e ≡ check_of w s → Err e ≡ locate_of w s t name
  unfolding locate_of
  refused-first e p = denied (check_of w s) _ e p

  -- or it is not, and the standing packet is,
  pub refused_second : (e : Refusal) → check_of w s ≡ 0 → number_for e ≡ check_of w t → Err e ≡ locate_of w s t name
  unfolding locate_of
  refused_second e z q = simp (eq-eqb (check_of w s) 0 z) (denied (check_of w t) _ e q)

  -- or neither is
  pub is_located : (f g : Option Item) → check_of w s ≡ 0 → check_of w t ≡ 0 → first_of name (whole_run s) ≡ f
      → first_of name (whole_run t) ≡ g → locate_of w s t name ≡ in_packet f (in_standing g)
  unfolding locate_of
  is_located f g z y a b = simp (eq-eqb (check_of w s) 0 z, eq-eqb (check_of w t) 0 y, a, b)

  -- so a search that finds the name in the packet answers what the item there tells, and shows its value
  pub found_here : (i : Item) → check_of w s ≡ 0 → check_of w t ≡ 0 → first_of name (whole_run s) ≡ Some i
      → (locate_call w s t name ≡ granted (0 ∷ values_of i)) × (shown_by s t (locate_of w s t name) ≡ value_of s i)
  unfolding located_number told values_at
  found_here i z y a =
      let at = is_located (Some i) (first_of name (whole_run t)) z y a refl in
      (sym (locate_number w s t name) ∙ ap located_number at, ap (shown_by s t) at)

-- ---- where a search for an occurrence ends

module _ (w : Repeats) (s : List ℕ) (name number : ℕ) where
  -- the packet is refused,
  pub nth_first : (e : Refusal) → number_for e ≡ check_of w s → Err e ≡ locate_nth_of w s name number
  unfolding locate_nth_of
  nth_first e p = denied (check_of w s) _ e p

  -- or it is not
  pub is_nth : (f : Option Item) → check_of w s ≡ 0 → nth_of name number (whole_run s) ≡ f
      → locate_nth_of w s name number ≡ in_packet f (Err refusal.Absent)
  unfolding locate_nth_of
  is_nth f z a = simp (eq-eqb (check_of w s) 0 z, a)

  -- so it is of a packet that does not open,
  pub nth_unopened : (o : Result ℕ Refusal) (e : Refusal) → opened_number o ≡ open_call w s → o ≡ Err e → Err e ≡ locate_nth_of w s name number
  unfolding opened_number open_call told
  nth_unopened o e told_so q = nth_first e (refused_by (number_for e) (check_of w s) _ (sym (ap opened_number q) ∙ told_so)).0

  -- or opens
  pub nth_opened : (o : Result ℕ Refusal) (at : ℕ) (f : Option Item) → opened_number o ≡ open_call w s → o ≡ Ok at → nth_of name number (whole_run s) ≡ f
      → locate_nth_of w s name number ≡ in_packet f (Err refusal.Absent)
  unfolding opened_number open_call told
  nth_opened o at f e q a = is_nth f (granted_by (check_of w s) _ _ (sym (ap opened_number q) ∙ e)) a

  -- so a search that finds the occurrence answers what it tells, and shows its value
  pub nth_found : (i : Item) → check_of w s ≡ 0 → nth_of name number (whole_run s) ≡ Some i
      → (locate_nth_call w s name number ≡ granted (0 ∷ values_of i)) × (shown_by s s (locate_nth_of w s name number) ≡ value_of s i)
  unfolding located_number told values_at
  nth_found i z a =
      let at = is_nth (Some i) z a in
      (sym (nth_number w s name number) ∙ ap located_number at, ap (shown_by s s) at)
