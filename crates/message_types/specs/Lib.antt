pub mod LineMessages
pub mod LineMessageLaws
pub mod TypeCounts
pub mod TypeCountLaws
pub mod Types
pub mod TypeSurveys
pub mod TypeSurveyLaws
pub mod TypeTexts
