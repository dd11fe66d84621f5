-- `put_front` meets its contract: the payload is copied right behind the header. Assumes nothing.
use mathlib.Core.Path.{ap, ◌∙◌}
use mathlib.Core.List.{List, ◌++◌}
use Prim.Native.Nat.{ℕ}
use lib.ListN.{length}
use Rattle.base_rules.specs.Bytes.{splice}
use Rattle.af_rules.specs.Packet.{header_bytes}
use Rattle.af_rules.proofs.Wraps.{length_header, both_put}
use Rattle.af.proofs.wrapping.put_front.Goals as goal

pub returns : goal.returns
returns c =
    let d = c in
    let s = d in
    let a = s.args in
    let h = d.header-front in
    let long = ap length h.ensures ∙ length_header a.seq a.cf (length a.payload.now) in
    both_put a.out.now _ _ h.result a.payload.now header_bytes _ _ long s.requires.1 d.put.ensures c.put-2.ensures
    ∙ ap (λ (l : List ℕ). splice a.out.now 0 (l ++ a.payload.now)) h.ensures
