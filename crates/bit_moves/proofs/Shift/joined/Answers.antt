use native.Mathlib.Omega.{arith}
use Rattle.bit_moves.proofs.Words.{words-two}
use Rattle.bit_moves.proofs.Shift.joined.Goals as goal

pub returns : goal.returns
returns c = words-two c.args.before c.args.self.held c.args.w (c.args.self.fits.2, c.args.self.fits.3) (omega arith)
