use Rattle.std.proofs.Common.{◌∙◌, ap, drop}
use Rattle.graph_file.proofs.CutLemmas.{take-drop}
use Rattle.graph_file.proofs.numbers.significant.Goals as goal

pub returns : goal.returns
returns c = take-drop c.leading_zeros.result c.args.digits.now ∙ ap (λ n. drop n c.args.digits.now) c.leading_zeros.ensures.value
