use Rattle.std.proofs.Common.{refl}
use Rattle.std.specs.Fmt.{digits}
use Rattle.library_tests.proofs.tests.parser.laws.what_std_writes_is_read_back.Goals as goal

pub read_back-requires : goal.read_back-requires
unfolding digits
read_back-requires g c = refl
