-- A packet checked whole, and finding by name in a packet and in a standing packet beside it (document 01, "TAG layer"); an occurrence of a name in a
-- packet alone (document 02, Item 1).
use Rattle.std.specs.Prelude.{cond, ◌≡◌, List, [], ℕ, ◌+◌, eqb, ltb, length, take, drop}
use Rattle.std.specs.Borrow.{Bor}
use Rattle.std.specs.Prelude.{Result, Ok, Err, Option, Some, None}
use Rattle.base_rules.specs.Refusal.{refusal_of}
use Rattle.base_rules.specs.declared.Refusal.{Refusal}
use Rattle.base_rules.specs.declared.Refusal.TheVariants as refusal
use Rattle.item_rules.specs.declared.Item.{Item}
use Rattle.item_rules.specs.declared.Repeats.{Repeats}
use Rattle.item_rules.specs.Run.{Run, run_of, first_of, nth_of, faults_of}
use Rattle.tag_rules.specs.declared.Located.{Located}
use Rattle.tag_rules.specs.declared.Located.TheVariants as located

-- clause 5.1: the run of a whole packet
abbrev pub whole_run : List ℕ → Run
whole_run s = run_of s 0 (length s)

-- document 01: the number of the leftmost item at fault of a whole packet, 0 where none is; document 02, Item 1: by the caller's word
unfoldable pub check_of : Repeats → List ℕ → ℕ
check_of w s = faults_of w [] (whole_run s)

-- in the packet, or as the rest says
abbrev pub in_packet : Option Item → Result Located Refusal → Result Located Refusal
in_packet (Some i) rest = Ok (located.Packet i)
in_packet None rest = rest

-- in the standing packet, or 34 ABSENT
abbrev pub in_standing : Option Item → Result Located Refusal
in_standing (Some i) = Ok (located.Standing i)
in_standing None = Err refusal.Absent

-- document 01: both are checked whole before either is searched, the packet s first; then the first that holds the name, the packet first
unfoldable pub locate_of : Repeats → List ℕ → List ℕ → ℕ → Result Located Refusal
locate_of w s t name =
    cond (eqb (check_of w s) 0)
    (cond (eqb (check_of w t) 0) (in_packet (first_of name (whole_run s)) (in_standing (first_of name (whole_run t)))) (Err (refusal_of (check_of w t))))
    (Err (refusal_of (check_of w s)))

-- document 02, Item 1, "over the packet alone, without the standing packet": it is checked whole; then the occurrence of that number, or 34 ABSENT
unfoldable pub locate_nth_of : Repeats → List ℕ → ℕ → ℕ → Result Located Refusal
locate_nth_of w s name number =
    cond (eqb (check_of w s) 0) (in_packet (nth_of name number (whole_run s)) (Err refusal.Absent)) (Err (refusal_of (check_of w s)))

-- document 01: the value of an item is a part of the packet that it stands in
unfoldable pub value_of : List ℕ → Item → List ℕ
value_of s i = take i.len.0 (drop i.from s)

-- document 01: the part that a search shows; a refused search shows an empty one
abbrev pub shown_by : List ℕ → List ℕ → Result Located Refusal → List ℕ
shown_by s t (Ok (located.Packet i)) = value_of s i
shown_by s t (Ok (located.Standing i)) = value_of t i
shown_by s t (Err n) = []

-- document 01: "as a part of the caller's bytes, never a copy": where the value begins in the lent packet p, in its block behind what stands before
abbrev pub begins_in : Bor (List ℕ) → Item → ℕ × ℕ
begins_in p i = (p.ref_ptr.0, i.from + p.ref_ptr.1)

-- where the value of any item is shown: of one that would begin past the end, an empty part at the packet's start
unfoldable pub value_place : Bor (List ℕ) → Item → ℕ × ℕ
value_place p i = cond (ltb (length p.now) i.from) p.ref_ptr (begins_in p i)

-- document 01: "the part shown belongs to the first that holds the name": where it begins; the empty part of a refused search, at the packet's start
abbrev pub place_by : Bor (List ℕ) → Bor (List ℕ) → Result Located Refusal → ℕ × ℕ
place_by p t (Ok (located.Packet i)) = begins_in p i
place_by p t (Ok (located.Standing i)) = begins_in t i
place_by p t (Err n) = p.ref_ptr

-- document 01: the part r that is shown, its bytes and its place
abbrev pub PartAt : Bor (List ℕ) → Bor (List ℕ) → Result Located Refusal → Bor (List ℕ) → Type 0
PartAt p t l r = (r.now ≡ shown_by p.now t.now l) × (r.ref_ptr ≡ place_by p t l)

-- document 01: the one that a search by name shows
abbrev pub PartShown : Repeats → Bor (List ℕ) → Bor (List ℕ) → ℕ → Bor (List ℕ) → Type 0
PartShown w p t name r = PartAt p t (locate_of w p.now t.now name) r

-- document 02, Item 1: the one that a search for an occurrence shows; no standing packet is lent or looked at, so the packet is named twice
abbrev pub NthPartShown : Repeats → Bor (List ℕ) → ℕ → ℕ → Bor (List ℕ) → Type 0
NthPartShown w p name number r = PartAt p p (locate_nth_of w p.now name number) r
