use Rattle.net_page.proofs.Pages.{page_back}
use Rattle.net_page.proofs.law.pages_are_read_back.Goals as goal

pub returns : goal.returns
returns c = λ head tail input w h. page_back head tail input w h
