pub mod OwnForms
