-- `turn::look` meets its contract.
use Rattle.base.proofs.Prelude.{◌∙◌, sym, refl, arith}
use Rattle.lists.specs.Lists.{lists_of}
use Rattle.turn.proofs.Laws.{looks-settled, looks-missing, word_fits}
use Rattle.turn.proofs.look.Goals as goal

pub handle_ins-stepped-requires : goal.handle_ins-stepped-requires
handle_ins-stepped-requires g c =
    let fits = word_fits c.args.m.code.now c.args.m.options.base c.args.w.progress.address _ (sym c.word_from.ensures ∙ c.in-Some.is) c.requires.0.fits in
    let bytes = c.requires.2 in
    rw (c.with_saved-ready.ensures, c.state_of.ensures) (refl, c.requires.1, c.requires.0.ascend, fits, fits, omega arith)

pub settle-requires : goal.settle-requires
settle-requires g c =
    let fits = word_fits c.args.m.code.now c.args.m.options.base c.args.w.progress.address _ (sym c.word_from.ensures ∙ c.in-Some.is) c.requires.0.fits in
    let bytes = c.requires.2 in
    (c.handle_ins-stepped.ensures.handles.held.pools, omega arith)

pub returns-in-Some-clause-looks : goal.returns-in-Some-clause-looks
returns-in-Some-clause-looks g c =
    looks-settled c.args.m c.args.w (lists_of g.C.CallList.numbers c.args.lists.now) (sym c.word_from.ensures ∙ c.in-Some.is) (rw (c.with_saved-ready.ensures, c.state_of.ensures, c.decode-ins.ensures) at c.handle_ins-stepped.ensures.handles) c.settle.ensures

pub returns-in-None-clause-looks : goal.returns-in-None-clause-looks
returns-in-None-clause-looks g c =
    looks-missing c.args.m c.args.w (lists_of g.C.CallList.numbers c.args.lists.now) (sym c.word_from.ensures ∙ c.in-None.is) c.requires.1 c.refused_walk.ensures
