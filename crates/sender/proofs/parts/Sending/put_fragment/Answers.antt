-- `put_fragment` meets its contract: the header stands at the front, and the payload in the part behind it. Assumes nothing.
use Rattle.sender_rules.proofs.Laying.{behind_header, room_behind, fragment_laid}
use Rattle.sender.proofs.parts.Sending.put_fragment.Goals as goal

pub slice_bounds-put_payload-count : goal.slice_bounds-put_payload-count
slice_bounds-put_payload-count c =
    let s = c.args.self.now in
    let P = c.requires in
    let a = c.args in
    behind_header s.g s.packet.now s.p s.figured a.out.now _ _ _ s.number a.i
    c.header_of.ensures P.2 c.write_header.ensures

pub slice_bounds-put_payload-start : goal.slice_bounds-put_payload-start
slice_bounds-put_payload-start c = slice_bounds-put_payload-count c

pub put_payload-requires : goal.put_payload-requires
put_payload-requires c =
    let s = c.args.self.now in
    let P = c.requires in
    let a = c.args in (
      P.0,
      P.1,
      room_behind s.g s.packet.now s.p s.figured a.out.now _ _ _ s.number a.i
          c.header_of.ensures P.2 c.write_header.ensures,
    )

pub returns : goal.returns
returns c =
    let s = c.args.self.now in
    let P = c.requires in
    let Header-of = c.header_of in
    let Write-header = c.write_header in
    let a = c.args in
    fragment_laid s.g s.packet.now s.p s.figured a.out.now _ _ _ s.number a.i Header-of.ensures P.2
    Write-header.ensures _ c.put_payload.ensures
