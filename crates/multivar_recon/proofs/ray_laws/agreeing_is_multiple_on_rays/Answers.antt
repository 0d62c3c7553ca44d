use Rattle.multivar_recon.proofs.Regular.{ray_multiple}
use Rattle.multivar_recon.proofs.ray_laws.agreeing_is_multiple_on_rays.Goals as goal

pub returns : goal.returns
returns c = λ m b s gs n xs vs f rays is low apart h within agrees d d_low num den h_num h_den.
    ray_multiple m b s gs n xs vs f rays is h within agrees d num den h_num h_den low apart d_low
