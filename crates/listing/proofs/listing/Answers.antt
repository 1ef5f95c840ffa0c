-- `listing::listing` meets its contract: the lines are written at the buffer's start, or there is too little room.
use Rattle.base.proofs.Prelude.{◌∙◌, sym, arith, rules, length, leb-true, leb-false}
use Rattle.words.proofs.Texts.{answered-none, answered-wrote}
use Rattle.listing.specs.Listing.{rows_of, text_of, room_with, room_for}
use Rattle.listing.proofs.ListingLaws.{shown-fits}
use Rattle.listing.proofs.listing.Goals as goal

pub has_room-requires : goal.has_room-requires
has_room-requires c =
    let f = shown-fits (rows_of c.args.lists) c.args.counts in
    rw c.shown-n.ensures (omega (arith, f.labels, f.pools, f.jump_tables, f.inline_tables, f.calls))

pub returns-then-not-has_room : goal.returns-then-not-has_room
unfolding text_of room_for
returns-then-not-has_room c =
    rw (← c.shown-n.ensures)
    (answered-none _ (room_with c.shown-n.result) _ (leb-false _ _ (sym c.has_room.ensures ∙ c.if-not-has_room.true)))

pub put_answer-requires : goal.put_answer-requires
put_answer-requires c =
    let made = c.new-writer.ensures in
    (rw (made.start, made.unwritten) (omega (arith, leb-true (room_with c.shown-n.result) (length c.args.out.now) (sym c.has_room.ensures ∙ c.if-not-has_room.false))), rw c.shown-n.ensures (shown-fits _ _))

pub returns : goal.returns
unfolding text_of room_for
returns c =
    let made = c.new-writer.ensures in
    rw (← c.shown-n.ensures)
    (answered-wrote (room_with c.shown-n.result) (leb-true _ _ (sym c.has_room.ensures ∙ c.if-not-has_room.false))
    made.start made.unwritten c.put_answer.ensures (search rules))
