use Rattle.std.proofs.Common.{[], ap, ◌++◌}
use Rattle.zf_header.proofs.Spelled.{one_header}
use Rattle.zf_header.proofs.laws.one_spelling.Goals as goal

pub returns : goal.returns
returns c = record { same = λ g h is_g is_h e. one_header g h [] [] is_g is_h (ap (λ bs. bs ++ []) e); none_begins_another = one_header }
