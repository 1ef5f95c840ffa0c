-- `fields` meets its contract.
use Rattle.base.proofs.Prelude.{◌∙◌, ap, arith, ◌≡◌, ◌+◌, ◌*◌, ◌-◌, take, drop, length}
use Rattle.std.proofs.lemmas.List.{take_rest}
use Rattle.module_request.specs.ModuleRequest.{head}
use Rattle.module_request.proofs.Laws.{taken-starts}
use Rattle.module_request.proofs.fields.Goals as goal

pub returns : goal.returns
returns c = record {
  options = c.options.ensures;
  starts = taken-starts c.args.input.now _ _ c.word_at-count.result c.word_at-count.ensures c.requires (take_rest c.args.input.now 22) c.as_chunks.ensures.front;
  code = take_rest c.args.input.now _ ∙ ap (λ n. drop (22 + n * 4) c.args.input.now) c.word_at-count.ensures;
}
