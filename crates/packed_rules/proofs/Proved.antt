-- The claims of specs/Claims.antt, each by citation. Assumes nothing.
use mathlib.Core.Path.{refl, sym}
use Rattle.base_rules.specs.Refusal.{told}
use Rattle.base_rules.specs.Written.{number_of}
use Rattle.base_rules.specs.Bytes.{bytes_of}
use Rattle.places_rules.specs.Places.{fresh_table, place_at}
use Rattle.packed_rules.specs.Packed.{figures_of, packed_place, packed_of}
use Rattle.packed_rules.specs.Claims.{Unpacks, Packs, PackedLength, PackedBytes, FreshZeros}
use Rattle.packed_rules.proofs.Unpacks.{no_fault, unpack_done}
use Rattle.packed_rules.proofs.Back.{table_back, table_good, table-length, table_is_bytes}
use Rattle.packed_rules.proofs.Again.{table_again}

-- a record whose fields fit their bytes is packed and unpacked as itself
pub unpacks : Unpacks
unfolding number_of told
unpacks t h = sym (unpack_done (packed_of t) t (no_fault (packed_of t) (table-length t h) (table_good t h)) (sym (table_back t h)))

-- bytes that unpacking takes are those that packing their record gives
pub packs : Packs
packs s bytes none = table_again s bytes none

-- every record whose fields fit their bytes is packed into the bytes of four places and one more
pub packed_length : PackedLength
packed_length t h = table-length t h

pub packed_bytes : PackedBytes
packed_bytes t h = table_is_bytes t h

-- a fresh record is packed as nothing but zeros
pub fresh_zeros : FreshZeros
unfolding packed_of packed_place figures_of bytes_of place_at fresh_table
fresh_zeros = refl
