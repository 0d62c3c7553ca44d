use Rattle.std.proofs.Common.{sym, ◌≤◌, ℕ, All, subst, List}
use Rattle.std.proofs.lemmas.List.Elements.{All-push}
use Rattle.ratfun_text.specs.Names.{last_argument}
use Rattle.ratfun_text.specs.Value.{greatest}
use Rattle.ratfun_text.specs.declared.expr.Expr.{Expr}
use Rattle.ratfun_text.specs.Grammar.{IsTreeOf}
use Rattle.ratfun_text.specs.Faults.{IsFaultless}
use Rattle.graph_file.proofs.ExprLemmas.{trees-there, faultless-there, trees-all, faultless-all}
use Rattle.graph_file.proofs.exprs.expressions.Goals as goal

pub loop-index-preserved : goal.loop-index-preserved
loop-index-preserved c =
    let parsed : IsTreeOf c.args.names.now c.index-texts-index.result c.in_ok-expr.expr × IsFaultless c.args.names.now c.index-texts-index.result =
    subst (λ (l : List ℕ). IsTreeOf c.args.names.now l c.in_ok-expr.expr × IsFaultless c.args.names.now l) c.bytes.ensures c.in_ok-expr.ensures.parsed
    in
    record {
      trees = trees-there c.args.names.now c.args.texts.now c.loop-index.index c.loop-index.exprs c.push.new.self c.index-texts-index.result c.in_ok-expr.expr c.loop-index-test.true c.index-texts-index.is c.loop-index.invariant.trees parsed.0 c.in_ok-push.ensures.ok;
      faultless = faultless-there c.args.names.now c.args.texts.now c.loop-index.index c.index-texts-index.result c.index-texts-index.is c.loop-index.invariant.faultless parsed.1;
      arguments = subst (λ (l : List Expr). All (λ expr. greatest expr ≤ last_argument c.args.names.now) l) (sym c.in_ok-push.ensures.ok) (All-push (λ (expr : Expr). greatest expr ≤ last_argument c.args.names.now) c.loop-index.exprs c.in_ok-expr.expr c.loop-index.invariant.arguments c.in_ok-expr.ensures.arguments);
    }

pub returns-clause-parsed : goal.returns-clause-parsed
returns-clause-parsed c = (
  trees-all c.args.names.now c.args.texts.now c.loop-index.index c.loop-index.exprs c.loop-index-test.false c.loop-index.invariant.trees,
  faultless-all c.args.names.now c.args.texts.now c.loop-index.index c.loop-index-test.false c.loop-index.invariant.faultless,
)
