-- What is claimed of the bandwidth, as it can be held against document 02, Item 10. Each is proved in proofs/Proved.antt.
use Rattle.std.specs.Prelude.{◌≡◌, true, false, not, List, [], ◌∷◌, ◌++◌, map, ℕ, ◌+◌, ◌*◌, ◌≤◌, ◌<◌, T, eqb, ltb, pos, negsuc, length, take, drop, replicate, Float}
use Rattle.std.specs.Float.Ieee as Ieee
use Rattle.std.specs.Float.{nan, inf, fin, binary32}
use Rattle.std.specs.Float.Ieee.{fits}
use Rattle.std.specs.Float.Ieee.Exact.{HasValue}
use Rattle.base_rules.specs.Answer.{answer_in, refused}
use Rattle.base_rules.specs.Bytes.{Bytes}
use Rattle.base_rules.specs.Tests.{among}
use Rattle.std.specs.Prelude.{Result, Ok, Err, Option, Some, None}
use Rattle.base_rules.specs.declared.Refusal.{Refusal}
use Rattle.base_rules.specs.declared.Refusal.TheVariants as refusal
use Rattle.item_rules.specs.declared.Item.{Item}
use Rattle.item_rules.specs.declared.Repeats.{Repeats}
use Rattle.item_rules.specs.declared.Repeats.TheVariants.{Forbidden}
use Rattle.tag_rules.specs.Find.{check_of, locate_of, shown_by}
use Rattle.tag_rules.specs.Calls.{locate_fault}
use Rattle.tag_rules.specs.declared.Located.TheVariants as located
use Rattle.write_rules.specs.Packet.{Entry, packet_of, names_of, AllFit, Apart}
use Rattle.bandwidth_rules.specs.Figure.{scale, figures, figure_of, in256ths, is_figure}
use Rattle.bandwidth_rules.specs.Read.{rbw, rbw_bits, bandwidth_of, bandwidth_number, bits_told}
use Rattle.bandwidth_rules.specs.Write.{width_entry, none_entry, entry_bytes, width_call}
use Rattle.bandwidth_rules.specs.Seen.{no_widths, seen_of, seen_all}
use Rattle.bandwidth_rules.specs.declared.Widths.{Widths}

-- ---- the figure

-- "exactly equal to the sent figure for all 65,536 values": the float of n is finite, has no minus sign, and is n / 256
abbrev pub ExactFigure : Type 0
ExactFigure = (n : ℕ) → n < figures → HasValue (figure_of n) false n 256

-- no other float of 32 bits is,
abbrev pub OnlyFigure : Type 0
OnlyFigure = (x : Float) (n : ℕ) → T (fits binary32 x) → n < figures → HasValue x false n 256 → x ≡ figure_of n

-- and no two numbers have the same
abbrev pub OneFigure : Type 0
OneFigure = (n m : ℕ) → n < figures → m < figures → figure_of n ≡ figure_of m → n ≡ m

-- "multiplied by 256.0 with exactness proved on 16-bit whole numbers": that gives the float of n back
abbrev pub ScaledBack : Type 0
ScaledBack = (n : ℕ) → n < figures → Ieee.mul binary32 (figure_of n) scale ≡ Ieee.of_int binary32 (pos n)

-- figures stand to each other as their numbers do
abbrev pub OrderKept : Type 0
OrderKept = (n m : ℕ) → n < figures → m < figures → Ieee.lt (figure_of n) (figure_of m) ≡ ltb n m

-- x is the figure of n, and n is one of 16 bits
abbrev pub FigureOf : Float → ℕ → Type 0
FigureOf x n = (n < figures) × (x ≡ figure_of n)

-- the test of a float of 32 bits says so: what passes is the figure of the number of its 256ths, and every figure passes, for that number
pub record Tested (x : Float) : Type 0 where
  pub is : is_figure x ≡ true → FigureOf x (in256ths x)
  pub passes : (n : ℕ) → FigureOf x n → (is_figure x ≡ true) × (in256ths x ≡ n)

-- so it is of each
abbrev pub FigureTested : Type 0
FigureTested = (x : Float) → T (fits binary32 x) → Tested x

-- "61 FIGURE when the value to be written is no multiple of 1/256 from 0 to 255 + 255/256": what is not refused with it is a figure, and no figure is
-- refused with it, whatever buffer is lent
abbrev pub Figures : Type 0
Figures = (x : Float) (out : List ℕ) → T (fits binary32 x)
    → ((answer_in (width_call x out) ≡ refused 61 → ⊥) → FigureOf x (in256ths x)) × ((n : ℕ) → FigureOf x n → answer_in (width_call x out) ≡ refused 61 → ⊥)

-- floats that are none: a NaN, the infinities, "or is minus zero", -1/256, 256, 1/512, and the float below 256, which is no multiple
unfoldable pub others : List Float
others =
    nan ∷ inf false ∷ inf true ∷ fin true 0 (pos 0) ∷ fin true 1 (negsuc 7) ∷ fin false 1 (pos 8) ∷ fin false 1 (negsuc 8) ∷ fin false 16777215 (negsuc 15) ∷ []

-- each fails the test
abbrev pub OthersOut : Type 0
OthersOut = map is_figure others ≡ replicate (length others) false

-- ---- reading

-- an answer that says a figure of 16 bits, or none, whatever its refusal is
abbrev pub Sent : {E : Type 0} → Result (Option Float) E → Type 0
Sent (Ok (Some x)) = T (fits binary32 x) × (is_figure x ≡ true)
Sent (Ok None) = Unit {0}
Sent (Err n) = Unit {0}

-- so does every answer that is read from bytes
abbrev pub ReadSent : Type 0
ReadSent = (w : Repeats) (s t : List ℕ) → Bytes s → Bytes t → Sent (bandwidth_of w s t)

-- x is Byte1 + Byte2 / 256 of the two bytes that a value is: (256 Byte1 + Byte2) / 256 in size, and without a minus sign
pub record TwoBytes (value : List ℕ) (x : Float) : Type 0 where
  pub byte1 : ℕ
  pub byte2 : ℕ
  pub two : value ≡ byte1 ∷ byte2 ∷ []
  pub exact : HasValue x false (byte1 * 256 + byte2) 256

-- "the bandwidth as a 32-bit float, exactly equal to the sent figure": so is what is read, by the value that the search for "rbw_" shows
abbrev pub ReadExact : Type 0
ReadExact = (w : Repeats) (s t : List ℕ) (x : Float) → Bytes s → Bytes t → bandwidth_of w s t ≡ Ok (Some x) → TwoBytes (shown_by s t (locate_of w s t rbw)) x

-- "60 WIDTH for another bit length", "after the TAG codes": 60 is none of these, so that it says that an item was found which has neither 16 bits nor 0
abbrev pub OtherLength : Type 0
OtherLength = (w : Repeats) (s t : List ℕ) → bandwidth_of w s t ≡ Err refusal.Width
    → (locate_fault w s t rbw ≡ 0) × (bits_told s t ≡ rbw_bits → ⊥) × (bits_told s t ≡ 0 → ⊥)

-- a float in it, if any, is one of 32 bits, as every f32 is
abbrev pub Of32Bits : Result (Option Float) Refusal → Type 0
Of32Bits (Ok (Some x)) = T (fits binary32 x)
Of32Bits (Ok None) = Unit {0}
Of32Bits (Err n) = Unit {0}

-- no second answer fits: two answers with the same number and value are the same answer
abbrev pub OneBandwidth : Type 0
OneBandwidth = (a b : Result (Option Float) Refusal) → Of32Bits a → Of32Bits b → bandwidth_number a ≡ bandwidth_number b → a ≡ b

-- ---- writing

-- an entry of "rbw_", written among items that fit, in a packet that does not hold the name before it, and, where names may not repeat, has none twice;
-- beside a standing packet that has no item at fault; each by the caller's word
pub record Placed (w : Repeats) (before after : List Entry) (e : Entry) (pad standing : List ℕ) : Type 0 where
  pub fit : AllFit (before ++ (e ∷ after))
  pub apart : w ≡ Forbidden → Apart (before ++ (e ∷ after))
  pub few : length pad ≤ 7
  pub sound : check_of w standing ≡ 0
  pub new : among rbw (names_of before) ≡ false

-- "a written figure reads as itself": the same float,
abbrev pub ReadsAsItself : Type 0
ReadsAsItself = (w : Repeats) (before after : List Entry) (x : Float) (pad standing : List ℕ) → T (fits binary32 x) → is_figure x ≡ true
    → Placed w before after (width_entry x) pad standing → bandwidth_of w (packet_of (before ++ (width_entry x ∷ after)) pad) standing ≡ Ok (Some x)

-- and an item of 0 bits as "not available"
abbrev pub NoneReads : Type 0
NoneReads = (w : Repeats) (before after : List Entry) (pad standing : List ℕ)
    → Placed w before after none_entry pad standing → bandwidth_of w (packet_of (before ++ (none_entry ∷ after)) pad) standing ≡ Ok None

-- the bytes of p from the start of i on are those of an entry
abbrev pub StandsAs : List ℕ → Item → Entry → Type 0
StandsAs p i e = take (length (entry_bytes e)) (drop i.start p) ≡ entry_bytes e

-- "It writes the item back": a figure that was read is written as the ten bytes that it was read from, in the packet that holds them,
abbrev pub WritesBack : Type 0
WritesBack = (w : Repeats) (s t : List ℕ) (i : Item) (x : Float) → Bytes s → Bytes t → bandwidth_of w s t ≡ Ok (Some x)
    → (locate_of w s t rbw ≡ Ok (located.Packet i) → StandsAs s i (width_entry x)) × (locate_of w s t rbw ≡ Ok (located.Standing i) → StandsAs t i (width_entry x))

-- and "not available" as the eight
abbrev pub NoneBack : Type 0
NoneBack = (w : Repeats) (s t : List ℕ) (i : Item) → Bytes s → Bytes t → bandwidth_of w s t ≡ Ok None
    → (locate_of w s t rbw ≡ Ok (located.Packet i) → StandsAs s i none_entry) × (locate_of w s t rbw ≡ Ok (located.Standing i) → StandsAs t i none_entry)

-- ten and eight they are
abbrev pub ItemsLong : Type 0
ItemsLong = ((x : Float) → length (entry_bytes (width_entry x)) ≡ 10) × (length (entry_bytes none_entry) ≡ 8)

-- ---- the figures so far

-- the numbers of the figures that came, in their order
unfoldable pub sent_in : {E : Type 0} → List (Result (Option Float) E) → List ℕ
sent_in [] = []
sent_in (Ok (Some x) ∷ more) = in256ths x ∷ sent_in more
sent_in (Ok None ∷ more) = sent_in more
sent_in (Err n ∷ more) = sent_in more

-- each answer says a figure, or none
abbrev pub AllSent : {E : Type 0} → List (Result (Option Float) E) → Type 0
AllSent [] = Unit {0}
AllSent (a ∷ more) = Sent a × AllSent more

-- after figures of the numbers `sent` came and no others: the flag says whether any did; then the last, the greatest and the least of them are kept,
-- and else nothing is
pub record SoFarIs (v : Widths) (sent : List ℕ) : Type 0 where
  pub any : v.any ≡ not (eqb (length sent) 0)
  pub last : (before : List ℕ) (n : ℕ) → sent ≡ before ++ (n ∷ []) → v.last ≡ figure_of n
  pub widest : (n : ℕ) → among n sent ≡ true → ((m : ℕ) → among m sent ≡ true → m ≤ n) → v.widest ≡ figure_of n
  pub narrowest : (n : ℕ) → among n sent ≡ true → ((m : ℕ) → among m sent ≡ true → n ≤ m) → v.narrowest ≡ figure_of n
  pub none : sent ≡ [] → v ≡ no_widths

-- "keeps the last figure and shows the widest and narrowest so far", of answers whose refusals are of the kind E
abbrev pub SoFarOf : Type 0 → Type 0
SoFarOf E = (answers : List (Result (Option Float) E)) → AllSent answers → SoFarIs (seen_all no_widths answers) (sent_in answers)

-- whether they are refusals or any numbers
abbrev pub SoFar : Type 0
SoFar = SoFarOf Refusal × SoFarOf ℕ

-- ""not available" or a refusal leaves all three as they stood", and the flag, whatever they were
abbrev pub LeftBy : Type 0 → Type 0
LeftBy E = (v : Widths) → (seen_of {E = E} v (Ok None) ≡ v) × ((e : E) → seen_of v (Err e) ≡ v)

-- whether what refuses is a refusal or any number
abbrev pub LeftAsTheyStood : Type 0
LeftAsTheyStood = LeftBy Refusal × LeftBy ℕ
