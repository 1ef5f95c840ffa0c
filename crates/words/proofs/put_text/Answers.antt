-- `words::put_text` meets its contract, by which test it leaves: a refusal, too little room, or the lines.
use Rattle.base.proofs.Prelude.{◌≡◌, false, ⊎_elim, arith, rules}
use Rattle.words.specs.Answer.{accepted}
use Rattle.words.proofs.Texts.{not-whole, too_long, whole, text-refused, room-refused, text-accepted, room-accepted, answered-none, answered-wrote}
use Rattle.words.proofs.put_text.Goals as goal

pub returns-then-input-ne0 : goal.returns-then-input-ne0
returns-then-input-ne0 c =
    let input = c.args.input.now in
    let refused : accepted input ≡ false = ⊎_elim (not-whole input) (λ long. too_long input long.1) c.then-input-ne0.either in
    rw (text-refused input refused c.args.text, room-refused input refused) c.refuse.ensures

pub returns-then-out-input : goal.returns-then-out-input
returns-then-out-input c =
    let input = c.args.input.now in
    rw (room-accepted input (whole input c.if-input-ne0.false c.if-input-gt65536.false)) (answered-none _ _ _ (omega arith))

pub put_lines-requires : goal.put_lines-requires
put_lines-requires c = rw (c.new-writer.ensures.start, c.new-writer.ensures.unwritten) (omega arith)

pub returns : goal.returns
returns c =
    let input = c.args.input.now in
    let taken = whole input c.if-input-ne0.false c.if-input-gt65536.false in
    let made = c.new-writer.ensures in
    rw (text-accepted input taken c.args.text, room-accepted input taken)
    (answered-wrote _ (omega (arith, c)) made.start made.unwritten c.put_lines.ensures (search rules))
