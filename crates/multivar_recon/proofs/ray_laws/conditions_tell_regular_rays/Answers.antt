use Rattle.multivar_recon.proofs.Attempts.{attempt_pass, attempt_regular}
use Rattle.multivar_recon.proofs.ray_laws.conditions_tell_regular_rays.Goals as goal

pub returns-clause-regular : goal.returns-clause-regular
returns-clause-regular c = λ m b g r vs nums dens degrees num_parts den_parts f is covers made tests.
    attempt_regular m b g r vs is covers nums dens degrees num_parts den_parts f made tests

pub returns-clause-met : goal.returns-clause-met
returns-clause-met c = λ m b g r vs nums dens degrees num_parts den_parts f is covers made regular.
    attempt_pass m b g r vs is covers nums dens degrees num_parts den_parts f made regular
