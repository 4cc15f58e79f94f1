use Rattle.bilateral.proofs.Stores.{IsStore-start}
use Rattle.bilateral.proofs.store.Store.new.Goals as goal

pub returns-clause-store : goal.returns-clause-store
returns-clause-store c =
    IsStore-start _ c.new.ensures.items c.new-2.ensures.items c.new-3.ensures.items
    c.no_names.ensures c.no_names-2.ensures c.no_names-3.ensures c.no_rows.ensures
    c.no_rows-2.ensures
