-- A call that brings one of the packet's fragments, and one that brings none: what is read of its datagram, and what came then. Assumes nothing.
use mathlib.Core.Path.{◌≡◌, refl, sym, ap, ◌∙◌, fun_ext}
use mathlib.Core.Bool.{Bool, true, false, ◌||◌, ◌&&◌}
use mathlib.Core.List.{List, [], ◌∷◌}
use Prim.Native.Nat.{ℕ, ◌<◌}
use native.Mathlib.Omega.{arith}
use borrow.Author.Tests.{eqb-true, eq-eqb, ne_eqb}
use lib.Dec.{eqb}
use lib.ListN.{length}
use lib.Seq.{drop_at}
use Rattle.std.specs.Prelude.{Option}
use Rattle.base_rules.proofs.Logic.{either}
use Rattle.cut_rules.specs.declared.Address.{Address}
use Rattle.cut_rules.specs.declared.Settings.{Settings}
use Rattle.header_rules.specs.declared.Header.{Header}
use Rattle.header_rules.specs.Header.{header_bytes}
use Rattle.header_rules.specs.Read.{fields_of, length_of, bad_address, fault_of}
use Rattle.header_rules.proofs.Proved.{reads_back, payload_stands}
use Rattle.places_rules.specs.Places.{key_of}
use Rattle.receiver_rules.specs.Promise.{payload_of}
use Rattle.sender_rules.specs.Fragments.{payload_for, header_for, fragment_for}
use Rattle.sender_rules.proofs.FragmentLengths.{header_size, fragment-size}
use Rattle.sender_rules.proofs.Headers.{header_written}
use Rattle.sender_rules.proofs.Proved.{received}
use Rattle.link.specs.Run.{Call, number_in, come}
use Rattle.link.specs.Demand.{Takes, count, key_for, Own, MatchHeard}
use Rattle.link.proofs.Basic.{same_or_not}

-- ---- what is read of a fragment

-- the number by which the receiver tells the packet, of each of its fragments
pub key_sent : (g : Settings) (n : ℕ) (packet : List ℕ) (i : ℕ) → key_of (header_for g n packet i) ≡ key_for g n
unfolding key_of header_for key_for
key_sent g n packet i = refl

module _ (g : Settings) (n : ℕ) (packet : List ℕ) (takes : Takes g n packet) (i : ℕ) (below : i < count g packet) where
  fields_are : fields_of (fragment_for g n packet i) ≡ header_for g n packet i
  unfolding fragment_for
  fields_are =
      reads_back (header_for g n packet i) (payload_for g packet i)
      (header_written g n packet i takes.passed below takes.number takes.address)

  plen_is : (fields_of (fragment_for g n packet i)).plen ≡ length (payload_for g packet i)
  unfolding header_for
  plen_is = ap (λ (h : Header). h.plen) fields_are

  -- the payload starts where the header ends
  payload_is : (own : Option Address) → fault_of own (fragment_for g n packet i) ≡ 0 → payload_of (fragment_for g n packet i) ≡ payload_for g packet i
  unfolding payload_of fragment_for
  payload_is own passes =
      let d : List ℕ = fragment_for g n packet i in
      let head : length (header_bytes (header_for g n packet i)) ≡ length_of d =
      omega (arith, header_size g packet n i, fragment-size g packet n i, payload_stands own d passes, plen_is) in
      drop_at (header_bytes (header_for g n packet i)) (payload_for g packet i) (length_of d) head

-- ---- the two kinds of call

-- the call brings fragment i
pub record Brings (g : Settings) (n : ℕ) (packet : List ℕ) (e : Call) (i : ℕ) : Type 0 where
  pub below : i < count g packet
  pub passes : fault_of e.own e.datagram ≡ 0
  pub fields : fields_of e.datagram ≡ header_for g n packet i
  pub payload : payload_of e.datagram ≡ payload_for g packet i

-- its datagram is refused by its header or is of another number
abbrev pub Foreign : ℕ → Call → Type 0
Foreign n e = fault_of e.own e.datagram ≡ 0 → number_in e ≡ n → ⊥

module _ (g : Settings) (n : ℕ) (packet : List ℕ) (takes : Takes g n packet) (e : Call) where
  reads : (i : ℕ) → i < count g packet → e.datagram ≡ fragment_for g n packet i → fault_of e.own e.datagram ≡ 0 → Brings g n packet e i
  reads i below is passes =
      record {
        below = below;
        passes = passes;
        fields = ap fields_of is ∙ fields_are g n packet takes i below;
        payload = ap payload_of is ∙ payload_is g n packet takes i below e.own (sym (ap (fault_of e.own) is) ∙ passes);
      }

  -- a fragment whose address matches is heard,
  pub brings : (i : ℕ) → i < count g packet → e.datagram ≡ fragment_for g n packet i → bad_address e.own g.address ≡ false
      → Brings g n packet e i
  brings i below is matches =
      reads i below is
      (ap (fault_of e.own) is ∙ (received g n packet i e.own takes.passed takes.number takes.address below matches).0)

  -- and what is heard of its number is one of its fragments
  pub its_own : Own g n packet e → fault_of e.own e.datagram ≡ 0 → number_in e ≡ key_for g n → (i : ℕ) × Brings g n packet e i
  unfolding Own
  its_own own passes is =
      let one = own (eq-eqb _ _ passes) is in
      (one.0, reads one.0 one.1 one.2 passes)

  -- so a call brings one of its fragments or is foreign
  pub either_kind : {P : Type 0} → Own g n packet e → ((i : ℕ) → Brings g n packet e i → P) → (Foreign (key_for g n) e → P) → P
  either_kind own p q =
      same_or_not (fault_of e.own e.datagram) 0
      (λ passes.
      same_or_not (number_in e) (key_for g n)
      (λ is. let one = its_own own passes is in p one.0 one.1)
      (λ other. q (λ z. other)))
      (λ fault. q (λ z. absurd (fault z)))

-- a call that brings a fragment of the packet has its number
pub brings_number : (g : Settings) (n : ℕ) (packet : List ℕ) (e : Call) (i : ℕ) → Brings g n packet e i → number_in e ≡ key_for g n
brings_number g n packet e i b = ap key_of b.fields ∙ key_sent g n packet i

brings_index : (g : Settings) (n : ℕ) (packet : List ℕ) (e : Call) (i : ℕ) → Brings g n packet e i → (fields_of e.datagram).index ≡ i
unfolding header_for
brings_index g n packet e i b = ap (λ (h : Header). h.index) b.fields

-- a call whose configuration accepts the packet's address hears its fragment i
pub match_heard : MatchHeard
match_heard g n packet takes e i below is matches =
    let b = brings g n packet takes e i below is matches in
    (eq-eqb _ _ b.passes, brings_number g n packet e i b, brings_index g n packet e i b)

-- ---- what came, with one call more

-- before the first call no fragment came
pub come_none : (n : ℕ) → come n [] ≡ (λ i. false)
unfolding come
come_none n = fun_ext (λ i. refl)

foreign_test : (fault number n : ℕ) (rest more : Bool) → (fault ≡ 0 → number ≡ n → ⊥) → (eqb fault 0 && (eqb number n && rest)) || more ≡ more
foreign_test fault number n rest more other =
    either (eqb fault 0)
    (λ e. simp (e, ne_eqb number n (other (eqb-true fault 0 e))))
    (λ e. simp e)

-- a foreign call adds nothing to what came
pub come_foreign : (n : ℕ) (e : Call) (es : List Call) → Foreign n e → come n (e ∷ es) ≡ come n es
unfolding come
come_foreign n e es other = fun_ext (λ i. foreign_test (fault_of e.own e.datagram) (number_in e) n (eqb (fields_of e.datagram).index i)
    (come n es i) other)

-- a call that brings fragment i adds this one to what came, and no other
pub come_own : (g : Settings) (n : ℕ) (packet : List ℕ) (e : Call) (es : List Call) (i : ℕ) → Brings g n packet e i
    → come (key_for g n) (e ∷ es) ≡ (λ j. eqb i j || come (key_for g n) es j)
unfolding come
come_own g n packet e es i b =
    fun_ext (λ j.
    simp (eq-eqb _ _ b.passes, eq-eqb _ _ (brings_number g n packet e i b))
    (ap (λ (x : ℕ). eqb x j || come (key_for g n) es j) (brings_index g n packet e i b)))

-- after it fragment i has come
pub come_it : (g : Settings) (n : ℕ) (packet : List ℕ) (e : Call) (es : List Call) (i : ℕ) → Brings g n packet e i → come (key_for g n) (e ∷ es) i ≡ true
come_it g n packet e es i b =
    ap (λ (came : ℕ → Bool). came i) (come_own g n packet e es i b) ∙ ap (λ (v : Bool). v || come (key_for g n) es i) (eq-eqb i i refl)

-- a repeat brings nothing
pub come_again : (g : Settings) (n : ℕ) (packet : List ℕ) (e : Call) (es : List Call) (i : ℕ) → Brings g n packet e i → come (key_for g n) es i ≡ true
    → come (key_for g n) (e ∷ es) ≡ come (key_for g n) es
come_again g n packet e es i b old =
    come_own g n packet e es i b
    ∙ fun_ext (λ j.
    same_or_not i j
    (λ z. ap (λ (v : Bool). v || come (key_for g n) es j) (eq-eqb i j z) ∙ sym (sym (ap (come (key_for g n) es) z) ∙ old))
    (λ z. ap (λ (v : Bool). v || come (key_for g n) es j) (ne_eqb i j z)))
