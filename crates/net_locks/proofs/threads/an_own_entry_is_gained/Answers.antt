use Rattle.net_locks.proofs.Apart.{gains}
use Rattle.net_locks.proofs.threads.an_own_entry_is_gained.Goals as goal

pub returns : goal.returns
returns c = gains
