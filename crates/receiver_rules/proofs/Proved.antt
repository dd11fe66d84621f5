-- The claims of specs/Claims.antt, each by citation. Assumes nothing.
use mathlib.Core.Path.{◌∙◌}
use Rattle.std.specs.Prelude.{Ok}
use Rattle.header_rules.specs.Read.{fields_of}
use Rattle.receiver_rules.specs.declared.Received.TheVariants.{Kept, Delivered, Damaged}
use Rattle.receiver_rules.specs.Promise.{payload_of}
use Rattle.receiver_rules.specs.Claims.{SomeReception, OneReception, OneReceived, OneQueried, Refusing, Untouched, DeliveryWrites, CountTold}
use Rattle.receiver_rules.proofs.Unique.{received_one, queried_one, reception_one}
use Rattle.receiver_rules.proofs.Exists.{reception_some}
use Rattle.receiver_rules.proofs.Left.{keeps-length, refusing, left_by}

-- some reception fits the promise, whatever the record and the inputs
pub some_reception : SomeReception
some_reception own s datagram out = reception_some own s datagram out

-- no second reception fits the promise for the same record and inputs
pub one_reception : OneReception
one_reception own s datagram out y z p q = reception_one own s datagram out y z p q

-- no second answer of `receive` has the same number and values
pub one_received : OneReceived
one_received a b e = received_one a b e

pub one_queried : OneQueried
one_queried a b e = queried_one a b e

pub refuses : Refusing
refuses own s datagram out y step n e some = refusing own s datagram out y step n e some

pub untouched : Untouched
untouched own s datagram out y step d = (
  left_by own s datagram out y step (Ok (Kept d)),
  λ q.
      let l = left_by own s datagram out y step (Ok (Damaged d)) q in
      (l.0, l.1, l.2, λ size. l.3 (keeps-length s.table (fields_of datagram) s.bytes (payload_of datagram) ∙ size)),
)

-- a delivery writes as many bytes of the packet buffer as it tells, from its front, and no others
pub delivery_writes : DeliveryWrites
delivery_writes own s datagram out y step l m d q = (left_by own s datagram out y step (Ok (Delivered l m d)) q).0

-- the count of missing fragments that a delivery tells is that of its place
pub count_told : CountTold
count_told own s datagram out y step l m d q = let r = left_by own s datagram out y step (Ok (Delivered l m d)) q in (r.1, r.2)
