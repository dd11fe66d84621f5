-- What is claimed of packing the record for C (card.h, "record_bytes"): the two are inverse. The proofs are in proofs/Proved.antt.
use Rattle.std.specs.Prelude.{◌≡◌, List, [], ℕ, ◌<◌, length, replicate}
use Rattle.base_rules.specs.Answer.{granted}
use Rattle.base_rules.specs.Bounds.{most_f}
use Rattle.base_rules.specs.Bytes.{Bytes}
use Rattle.places_rules.specs.declared.Place.{Place}
use Rattle.places_rules.specs.declared.Table.{Table}
use Rattle.places_rules.specs.Places.{four, fresh_table, place_at}
use Rattle.packed_rules.specs.Packed.{table-bytes, packed_of, unpack_fault, unpack_call, table_from}

-- a place whose fields have the bytes that their types give them
pub record Typed (p : Place) : Type 0 where
  pub condition : p.condition < 256
  pub number : p.number < 65536
  pub count : p.count < 4294967296
  pub rsk : p.rsk < 256
  pub rsz : p.rsz < 256
  pub size : p.size < 65536
  pub last : p.last < 65536
  pub kept : length p.kept ≡ most_f

-- and such a record
pub record TypedTable (t : Table) : Type 0 where
  pub places : length t.places ≡ four
  pub each : (i : ℕ) → i < four → Typed (place_at t i)
  pub oldest : t.oldest < 256

-- a record that is packed is unpacked as itself,
abbrev pub Unpacks : Type 0
Unpacks = (t : Table) → TypedTable t → unpack_call (packed_of t) ≡ (granted [], t)

-- and bytes that are taken are those that packing their record gives
abbrev pub Packs : Type 0
Packs = (s : List ℕ) → Bytes s → unpack_fault s ≡ 0 → packed_of (table_from s) ≡ s

-- the bytes of a record are always as many
abbrev pub PackedLength : Type 0
PackedLength = (t : Table) → TypedTable t → length (packed_of t) ≡ table-bytes

-- and they are bytes
abbrev pub PackedBytes : Type 0
PackedBytes = (t : Table) → TypedTable t → Bytes (packed_of t)

-- a fresh record is zeros
abbrev pub FreshZeros : Type 0
FreshZeros = packed_of fresh_table ≡ replicate table-bytes 0
