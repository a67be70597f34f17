-- Line by line the code is that of the plan.
use Rattle.head.proofs.Steps.{steps}
use Rattle.head.specs.Checks.{form_plan}
use Rattle.head.proofs.checks.check_form.Goals as goal

pub returns : goal.returns
unfolding form_plan
returns c = search (steps, c.in_ok-known.ensures, c.in_ok-layout.ensures) depth 12
